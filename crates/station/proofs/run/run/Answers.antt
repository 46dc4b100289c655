use Rattle.std.proofs.Common.{rules, ◌≡◌, List, map, Ok, vec_items, sym, ap, ◌∙◌, subst}
use Rattle.bank.specs.Slots.{SlotMeaning}
use Rattle.call.specs.declared.answer.Answer.{Answer}
use Rattle.promise.specs.Logs.{exchanges}
use Rattle.promise.specs.Promises.{Promise}
use Rattle.promise.specs.Rules.{answers_of, set_up}
use Rattle.promise.proofs.Promised.{promise_kept}
use Rattle.watch_list.proofs.Listed.{passing_listed}
use Rattle.watch_list.specs.Checks.{check_of}
use Rattle.watch_list.specs.Watches.{new_watched}
use Rattle.watch_list.specs.declared.entry.Entry.{Entry}
use Rattle.station.specs.Stations.{state_of}
use Rattle.station.specs.declared.station.Station.{Station}
use Rattle.station.proofs.Worked.{answers_all}
use Rattle.station.proofs.run.run.Goals as goal

fresh : {B : Type 0} (slots : B → List SlotMeaning) (s : Station B) (bank : B) (entries : List Entry)
    → s.bus.bank ≡ bank → s.bus.frames ≡ 0 → vec_items s.watched ≡ map new_watched entries → state_of slots s ≡ set_up (slots bank) entries
fresh slots s bank entries b f w = cc

pub returns-clause-promise : goal.returns-clause-promise
returns-clause-promise g c =
    let calls = c.args.calls.now in
    let slots = g.B.Bank.slots c.args.bank in
    let entries = c.args.entries.now in
    let passed : check_of entries ≡ Ok tt = search rules in
    let watched : vec_items c.over-station.result.watched ≡ map new_watched entries = search rules in
    let start = fresh g.B.Bank.slots c.over-station.result c.args.bank entries (search rules) c.over-station.ensures.frames watched in
    let m = state_of g.B.Bank.slots c.loop-call.station in
    let answered =
    sym (ap (λ s. answers_of s calls) (sym start) ∙ c.loop-call.invariant.2 ∙ answers_all m calls c.loop-call.call-index c.loop-call-test.false (vec_items c.loop-call.answers)) in
    subst (λ (told : List Answer). Promise slots entries calls (exchanges calls told)) (sym answered)
    (promise_kept slots entries calls (passing_listed entries passed) (g.met.B.Bank.mmds_keep_invariant c.args.bank))
