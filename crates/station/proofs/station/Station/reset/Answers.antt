use Rattle.std.proofs.Common.{sym}
use Rattle.station.specs.Stations.{state_of}
use Rattle.station.proofs.Called.{reset_called, reset_unnamed}
use Rattle.station.proofs.station.Station.reset.Goals as goal

pub returns-then-not-is_addressable : goal.returns-then-not-is_addressable
returns-then-not-is_addressable g c =
    let all = reset_unnamed c.args.address (state_of g.B.Bank.slots c.args.self.now) (sym c.if-not-is_addressable.ensures) in
    record { answer = all.0; after = all.1 }

pub returns : goal.returns
returns g c =
    let state = state_of g.B.Bank.slots in
    let all =
    reset_called c.args.address (state c.args.self.now) (sym c.if-not-is_addressable.ensures) (state c.sweep.new.self)
    (state c.event.new.self) c.event.result c.sweep.ensures c.event.ensures.answer c.event.ensures.after in
    record { answer = all.0; after = all.1 }
