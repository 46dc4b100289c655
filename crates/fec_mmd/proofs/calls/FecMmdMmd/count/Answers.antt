use Rattle.std.proofs.Common.{refl, arith}
use Rattle.std.proofs.lemmas.Bool.Decides.{nat_tests}
use Rattle.mmd.specs.Refusals.{count_answer}
use Rattle.fec_mmd.specs.Layout.{fec_layout}
use Rattle.fec_mmd.specs.Meaning.{fec_meaning}
use Rattle.fec_mmd.proofs.After.{after_count_is}
use Rattle.fec_mmd.proofs.calls.FecMmdMmd.count.Goals as goal

pub returns-in_default : goal.returns-in_default
unfolding count_answer fec_meaning fec_layout
returns-in_default c = record { answer = grind (arith, nat_tests); after = refl }

pub returns-in-0 : goal.returns-in-0
unfolding count_answer fec_meaning fec_layout
returns-in-0 c =
    let e = after_count_is c.args.self.now c.args.counter c.args.amount in
    record { answer = grind (arith, nat_tests); after = grind (arith, nat_tests) }

pub returns-in-1 : goal.returns-in-1
unfolding count_answer fec_meaning fec_layout
returns-in-1 c =
    let e = after_count_is c.args.self.now c.args.counter c.args.amount in
    record { answer = grind (arith, nat_tests); after = grind (arith, nat_tests) }
