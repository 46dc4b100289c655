use Rattle.std.proofs.Common.{sym, ◌∙◌}
use Rattle.std.proofs.lemmas.Result.{err_from_is_err_and}
use Rattle.station.specs.Stations.{state_of}
use Rattle.station.proofs.Events.{event_refused}
use Rattle.station.proofs.station.Station.event.Goals as goal

pub returns-in_err-event : goal.returns-in_err-event
returns-in_err-event g c =
    let exit = err_from_is_err_and c.from_residual.result c.from_residual.ensures.1 in
    let bus = c.in_err-event.ensures in
    let fits = sym c.all_in_range.ensures ∙ c.if-not-all_in_range.false in
    let told =
    event_refused c.args.address c.args.event (state_of g.B.Bank.slots c.args.self.now) (g.B.Bank.slots c.event.new.self.bank)
    c.event.new.self.frames c.in_err-event.field-0.0 fits bus.place_answer bus.place_slots bus.frames in
    record { answer = rw (exit.1, exit.2) told.0; after = told.1 }
