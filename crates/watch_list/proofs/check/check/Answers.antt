use Rattle.std.proofs.Common.{take, Some, sym, ◌∙◌}
use Rattle.std.proofs.lemmas.List.{at_drop_all}
use Rattle.watch_list.specs.Checks.{check_behind}
use Rattle.watch_list.proofs.Checked.{behind_at, few_enough, too_many}
use Rattle.watch_list.proofs.Listed.{passes_exactly}
use Rattle.watch_list.proofs.check.check.Goals as goal

pub returns-then-too_many : goal.returns-then-too_many
returns-then-too_many c = record { answer = sym (too_many c.args.entries.now c.if-too_many.ensures); passes_exactly = passes_exactly c.args.entries.now }

pub returns-in-Some : goal.returns-in-Some
returns-in-Some c =
    let entries = c.args.entries.now in
    let here = behind_at entries c.loop-place.place (Some c.in-Some.fault) c.loop-place-test.true c.in-Some.ensures in
    record { answer = sym (few_enough entries c.if-too_many.ensures ∙ c.loop-place.invariant.1 ∙ here); passes_exactly = passes_exactly c.args.entries.now }

pub returns : goal.returns
returns c =
    let entries = c.args.entries.now in
    let i = c.loop-place.place in
    let end = at_drop_all (check_behind (take i entries)) entries i c.loop-place-test.false in
    record { answer = sym (few_enough entries c.if-too_many.ensures ∙ c.loop-place.invariant.1 ∙ end); passes_exactly = passes_exactly c.args.entries.now }
