use Rattle.std.proofs.Common.{[]}
use Rattle.bus.specs.declared.bus.Bus.{Bus}
use Rattle.promise.specs.Rules.{State}
use Rattle.station.specs.Stations.{state_over}
use Rattle.station.proofs.Takes.{both_halves, low_granted}
use Rattle.station.proofs.take.read_entry.Goals as goal

pub returns-in_err-low-in-Count : goal.returns-in_err-low-in-Count
returns-in_err-low-in-Count g c =
    let high = c.in_ok-high-in-Count.ensures in
    let low = c.in_err-low-in-Count.ensures in
    let state : Bus g.row.B.Denot → State = λ bus. state_over g.B.Bank.slots bus [] in
    absurd
    (low_granted c.args.entry c.in-Count.count c.in-Count.is c.requires (state c.args.bus.now) (state c.read_register-in-Count.new.bus)
    (state c.read_register-in-Count-2.new.bus) c.in_ok-high-in-Count.high high.answer high.after low.after c.in_err-low-in-Count.field-0.0 low.answer)

pub returns-in_ok-low-in-Count : goal.returns-in_ok-low-in-Count
returns-in_ok-low-in-Count g c =
    let high = c.in_ok-high-in-Count.ensures in
    let low = c.in_ok-low-in-Count.ensures in
    let state : Bus g.row.B.Denot → State = λ bus. state_over g.B.Bank.slots bus [] in
    let all =
    both_halves c.args.entry c.in-Count.count c.in-Count.is c.requires (state c.args.bus.now) (state c.read_register-in-Count.new.bus)
    (state c.read_register-in-Count-2.new.bus) c.in_ok-high-in-Count.high high.answer high.after low.after c.in_ok-low-in-Count.low low.answer in
    record { answer = all.0; after = all.1 }
