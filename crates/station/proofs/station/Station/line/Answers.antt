use Rattle.std.proofs.Common.{refl}
use Rattle.mmd.specs.declared.event.Event.TheVariants.{Line}
use Rattle.promise.specs.Rules.{admitted, reply}
use Rattle.station.specs.Stations.{state_of}
use Rattle.station.proofs.Called.{event_called}
use Rattle.station.proofs.station.Station.line.Goals as goal

pub returns : goal.returns
unfolding admitted reply
returns g c =
    let state = state_of g.B.Bank.slots in
    let all =
    event_called c.args.address (Line c.args.number c.args.up) (state c.args.self.now) refl refl
    c.event.result (state c.event.new.self) c.event.ensures.answer c.event.ensures.after in
    record { answer = all.0; after = all.1 }
