use Rattle.std.proofs.Common.{◌/◌, ◌^◌, eqb, ap, arith}
use Rattle.std.proofs.lemmas.Nat.{and_mask}
use Rattle.std.proofs.lemmas.Bool.Decides.{nat_tests}
use Rattle.bits.specs.Bits.{bit}
use Rattle.bits.proofs.Bits.{bit_above}
use Rattle.bits.proofs.is_one.Goals as goal

pub returns-then-place-lt32 : goal.returns-then-place-lt32
unfolding bit
returns-then-place-lt32 c = ap (λ n. eqb n 1) (and_mask (c.args.word / 2 ^ c.args.place) 1)

pub returns-else-place-lt32 : goal.returns-else-place-lt32
returns-else-place-lt32 c = let none = bit_above c.args.word 32 c.args.place (omega arith) (omega arith) in grind (arith, nat_tests)
