use Rattle.std.proofs.Common.{refl, arith}
use Rattle.std.proofs.lemmas.Bool.Decides.{nat_tests}
use Rattle.mmd.specs.Refusals.{finish_answer}
use Rattle.fec_mmd.specs.Layout.{fec_layout}
use Rattle.fec_mmd.specs.Meaning.{fec_meaning}
use Rattle.fec_mmd.proofs.calls.FecMmdMmd.finish.Goals as goal

pub returns : goal.returns
unfolding finish_answer fec_meaning fec_layout
returns c = record { answer = grind (arith, nat_tests); after = refl }
