use Rattle.std.proofs.Common.{Ok, Err}
use Rattle.std.proofs.lemmas.Result.{err_from_is_err_and}
use Rattle.station.specs.Stations.{state_of}
use Rattle.station.proofs.Called.{write_called}
use Rattle.station.proofs.station.Station.write.Goals as goal

pub returns-in_err-write_register : goal.returns-in_err-write_register
returns-in_err-write_register g c =
    let exit = err_from_is_err_and c.from_residual.result c.from_residual.ensures.1 in
    let bus = c.in_err-write_register.ensures in
    let s = c.args.self.now in
    let all =
    write_called c.args.address c.args.register c.args.word (state_of g.B.Bank.slots s) s.bus.counted
    (Err c.in_err-write_register.field-0.0) (g.B.Bank.slots c.write_register.new.self.bank) c.write_register.new.self.frames
    bus.answer bus.slots bus.frames in
    record { answer = rw (exit.1, exit.2) all.0; after = all.1 }

pub returns : goal.returns
returns g c =
    let bus = c.in_ok-write_register.ensures in
    let s = c.args.self.now in
    let all =
    write_called c.args.address c.args.register c.args.word (state_of g.B.Bank.slots s) s.bus.counted
    (Ok tt) (g.B.Bank.slots c.write_register.new.self.bank) c.write_register.new.self.frames
    bus.answer bus.slots bus.frames in
    record { answer = all.0; after = all.1 }
