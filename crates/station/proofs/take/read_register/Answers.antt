use Rattle.std.proofs.lemmas.Result.{err_from_is_err_and}
use Rattle.std.proofs.Common.{Err, []}
use Rattle.station.specs.Stations.{state_over}
use Rattle.station.proofs.Accesses.{read_accessed}
use Rattle.station.proofs.take.read_register.Goals as goal

pub returns-in_err-read_register : goal.returns-in_err-read_register
returns-in_err-read_register g c =
    let exit = err_from_is_err_and c.from_residual.result c.from_residual.ensures.1 in
    let bus = c.in_err-read_register.ensures in
    let s = c.args.bus.now in
    let told =
    read_accessed c.args.address c.args.register (state_over g.B.Bank.slots s []) s.counted
    (Err c.in_err-read_register.field-0.0) (g.B.Bank.slots c.read_register.new.self.bank) c.read_register.new.self.frames
    bus.answer bus.slots bus.frames in
    record { answer = rw (exit.1, exit.2) told.0; after = told.1 }
