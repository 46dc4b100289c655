use Rattle.std.proofs.Common.{[], vec_items, refl, ap, ◌∙◌, arith}
use Rattle.std.proofs.lemmas.Option.{slice_get_read}
use Rattle.std.proofs.lemmas.Result.{err_from_is_err_and}
use Rattle.watch_list.proofs.Watches.{entry_of_after_look}
use Rattle.watch_list.specs.Watches.{entry_of}
use Rattle.station.specs.Stations.{state_of, state_over}
use Rattle.station.proofs.Looks.{look_at_none, look_by_none, look_refused, look_told}
use Rattle.station.proofs.Named.{named_nth, named_put}
use Rattle.station.proofs.station.Station.watch_read.Goals as goal

pub returns-then-watcher-gt-LAST_WATCHER : goal.returns-then-watcher-gt-LAST_WATCHER
returns-then-watcher-gt-LAST_WATCHER g c =
    let all = look_by_none c.args.watcher c.args.entry c.args.entry refl (state_of g.B.Bank.slots c.args.self.now) c.if-watcher-gt-LAST_WATCHER.true in
    record { answer = all.0; after = all.1 }

pub returns-in_default : goal.returns-in_default
returns-in_default g c =
    let s = c.args.self.now in
    let all = look_at_none c.args.watcher c.from.result c.args.entry c.from.ensures (state_of g.B.Bank.slots s) (omega (arith, c.in_default.ensures.item, s.watched.ok.0)) in
    record { answer = all.0; after = all.1 }

pub take-requires : goal.take-requires
take-requires g c =
    let s = c.args.self.now in
    let w = c.in-Some.watched.now in
    let at = slice_get_read (vec_items s.watched) _ c.from.result w refl (omega (arith, c.in-Some.ensures.item)) c.in-Some.ensures.value in
    named_nth (vec_items s.watched) c.from.result w s.named at

pub invariant_of-self-in-Break-1 : goal.invariant_of-self-in-Break-1
invariant_of-self-in-Break-1 g c =
    let s = c.args.self.now in
    let w = c.in-Some.watched.now in
    let at = slice_get_read (vec_items s.watched) _ c.from.result w refl (omega (arith, c.in-Some.ensures.item)) c.in-Some.ensures.value in
    record { named = named_put (vec_items s.watched) c.from.result w c.take.new.watched s.named at c.in_err-take.ensures.entry }

pub returns-in_err-take : goal.returns-in_err-take
returns-in_err-take g c =
    let exit = err_from_is_err_and c.from_residual.result c.from_residual.ensures.1 in
    let s = c.args.self.now in
    let w = c.in-Some.watched.now in
    let at = slice_get_read (vec_items s.watched) _ c.from.result w refl (omega (arith, c.in-Some.ensures.item)) c.in-Some.ensures.value in
    let took = c.in_err-take.ensures in
    let all =
    look_refused c.args.watcher c.from.result c.args.entry c.from.ensures (state_of g.B.Bank.slots s) c.if-watcher-gt-LAST_WATCHER.false w at
    (state_over g.B.Bank.slots c.take.new.bus []) c.take.new.watched took.after c.in_err-take.field-0.0 took.answer in
    record { answer = rw (exit.1, exit.2) all.0; after = all.1 }

pub invariant_of-self-2 : goal.invariant_of-self-2
invariant_of-self-2 g c =
    let s = c.args.self.now in
    let w = c.in-Some.watched.now in
    let at = slice_get_read (vec_items s.watched) _ c.from.result w refl (omega (arith, c.in-Some.ensures.item)) c.in-Some.ensures.value in
    let same = ap entry_of c.look.ensures.after ∙ entry_of_after_look _ c.take.new.watched ∙ c.in_ok-take.ensures.entry in
    record { named = named_put (vec_items s.watched) c.from.result w c.look.new.self s.named at same }

pub returns : goal.returns
returns g c =
    let s = c.args.self.now in
    let w = c.in-Some.watched.now in
    let at = slice_get_read (vec_items s.watched) _ c.from.result w refl (omega (arith, c.in-Some.ensures.item)) c.in-Some.ensures.value in
    let took = c.in_ok-take.ensures in
    let all =
    look_told c.args.watcher c.from.result c.args.entry c.from.ensures (state_of g.B.Bank.slots s) c.if-watcher-gt-LAST_WATCHER.false w at
    (state_over g.B.Bank.slots c.take.new.bus []) c.take.new.watched took.after c.in_ok-take.field-0 took.answer
    c.look.result c.look.new.self c.look.ensures.word c.look.ensures.after in
    record { answer = all.0; after = all.1 }
