use Rattle.std.proofs.Common.{[], refl, ap, ◌∙◌}
use Rattle.std.proofs.lemmas.Result.{err_from_is_err_and}
use Rattle.watch_list.proofs.Watches.{entry_of_taken_in}
use Rattle.watch_list.specs.Watches.{entry_of}
use Rattle.station.specs.Stations.{state_over}
use Rattle.station.proofs.Takes.{take_granted, take_refused}
use Rattle.station.proofs.take.take.Goals as goal

pub returns-in_err-word : goal.returns-in_err-word
returns-in_err-word g c =
    let exit = err_from_is_err_and c.from_residual.result c.from_residual.ensures.1 in
    let read = c.in_err-word.ensures in
    let all =
    take_refused (state_over g.B.Bank.slots c.args.bus.now []) (state_over g.B.Bank.slots c.read_entry.new.bus []) c.args.watched.now
    c.entry.result c.entry.ensures read.after c.in_err-word.field-0.0 read.answer in
    record { answer = rw (exit.1, exit.2) all.0; after = all.1; entry = refl }

pub returns : goal.returns
returns g c =
    let read = c.in_ok-word.ensures in
    let all =
    take_granted (state_over g.B.Bank.slots c.args.bus.now []) (state_over g.B.Bank.slots c.read_entry.new.bus []) c.args.watched.now
    c.entry.result c.entry.ensures read.after c.in_ok-word.word c.in_ok-word.low c.take_in.new.self c.take_in.ensures read.answer in
    record { answer = all.0; after = all.1; entry = ap entry_of c.take_in.ensures ∙ entry_of_taken_in c.in_ok-word.word c.in_ok-word.low c.args.watched.now }
