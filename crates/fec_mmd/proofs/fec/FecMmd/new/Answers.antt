use Rattle.std.proofs.Common.{arith}
use Rattle.std.proofs.lemmas.Bool.Decides.{nat_tests}
use Rattle.bits.proofs.Bits.{bit_zero}
use Rattle.fec_mmd.proofs.After.{new_is}
use Rattle.fec_mmd.proofs.fec.FecMmd.new.Goals as goal

pub invariant_of-result : goal.invariant_of-result
invariant_of-result c = let down = bit_zero 0 in grind (arith, nat_tests)

pub returns : goal.returns
returns c = new_is
