use Rattle.std.proofs.Common.{rules, ◌≡◌, Ok, ◌∙◌}
use Rattle.bus.proofs.Events.{taken_there, told_at_place}
use Rattle.bus.specs.Answers.{event_at, slot_at}
use Rattle.bus.proofs.bus.Bus.event.Goals as goal

pub returns-in_err-act-clause-place_answer : goal.returns-in_err-act-clause-place_answer
returns-in_err-act-clause-place_answer g c =
    let slots = g.B.Bank.slots c.args.self.now.bank in
    let by_slots : c.from_residual.result ≡ event_at c.args.address c.args.event slots (slot_at c.args.address slots) = search rules in
    by_slots ∙ told_at_place c.args.address c.args.event slots

pub returns-in_err-act-clause-place_slots : goal.returns-in_err-act-clause-place_slots
returns-in_err-act-clause-place_slots g c =
    c.act.ensures.slots ∙ taken_there c.args.address c.args.event (g.B.Bank.slots c.args.self.now.bank)

pub returns-clause-place_answer : goal.returns-clause-place_answer
returns-clause-place_answer g c =
    let slots = g.B.Bank.slots c.args.self.now.bank in
    let by_slots : Ok tt ≡ event_at c.args.address c.args.event slots (slot_at c.args.address slots) = search rules in
    by_slots ∙ told_at_place c.args.address c.args.event slots

pub returns-clause-place_slots : goal.returns-clause-place_slots
returns-clause-place_slots g c =
    c.act.ensures.slots ∙ taken_there c.args.address c.args.event (g.B.Bank.slots c.args.self.now.bank)
