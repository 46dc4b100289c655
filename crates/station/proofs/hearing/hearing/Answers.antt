use Rattle.std.proofs.Common.{rules, tests, ◌∙◌}
use Rattle.std.proofs.lemmas.Iterator.{YieldsList-from_slice}
use Rattle.std.proofs.lemmas.Iterator.Search.{position_from_yields_List}
use Rattle.promise.specs.Rules.{hears}
use Rattle.station.proofs.Heard.{heard_first}
use Rattle.station.proofs.hearing.hearing.Goals as goal

pub returns : goal.returns
returns c =
    position_from_yields_List (hears c.args.address c.args.register) _ _ _ c.position.ensures.ran (YieldsList-from_slice c.args.watched.now cc) (λ x b q k. search (rules, tests))
    ∙ heard_first c.args.address c.args.register c.args.watched.now
