use Rattle.std.proofs.Common.{arith}
use Rattle.std.proofs.lemmas.Bool.Decides.{nat_tests}
use Rattle.fec_mmd.proofs.After.{after_write_is}
use Rattle.fec_mmd.proofs.calls.FecMmdMmd.write.Goals as goal

pub returns-in-75 : goal.returns-in-75
returns-in-75 c = let e = after_write_is c.args.self.now c.args.register c.args.word in grind (arith, nat_tests)

pub returns-in-80 : goal.returns-in-80
returns-in-80 c = let e = after_write_is c.args.self.now c.args.register c.args.word in grind (arith, nat_tests)

pub returns-in_default : goal.returns-in_default
returns-in_default c = let e = after_write_is c.args.self.now c.args.register c.args.word in grind (arith, nat_tests)
