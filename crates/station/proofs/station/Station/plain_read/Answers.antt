use Rattle.std.proofs.Common.{[], vec_items, sym, refl, ap, ◌∙◌, arith}
use Rattle.std.proofs.lemmas.Option.{slice_get_read}
use Rattle.promise.specs.Rules.{hearing}
use Rattle.station.specs.Stations.{state_of, state_over}
use Rattle.station.proofs.Called.{read_heard, read_unheard}
use Rattle.station.proofs.Heard.{heard_within}
use Rattle.station.proofs.Named.{named_nth, named_put}
use Rattle.station.proofs.station.Station.plain_read.Goals as goal

pub index_mut-requires : goal.index_mut-requires
index_mut-requires g c =
    let s = c.args.self.now in
    let heard = sym (c.in-Some.ensures ∙ ap (hearing c.args.address c.args.register) c.as_slice.ensures.value) in
    omega (arith, heard_within c.args.address c.args.register c.in-Some.index (vec_items s.watched) heard, s.watched.ok.0)

pub take-requires : goal.take-requires
take-requires g c =
    let s = c.args.self.now in
    let heard = sym (c.in-Some.ensures ∙ ap (hearing c.args.address c.args.register) c.as_slice.ensures.value) in
    let within = heard_within c.args.address c.args.register c.in-Some.index (vec_items s.watched) heard in
    named_nth (vec_items s.watched) c.in-Some.index c.index_mut.result.now s.named (slice_get_read (vec_items s.watched) _ c.in-Some.index c.index_mut.result.now refl within c.index_mut.ensures.value)

pub invariant_of-self : goal.invariant_of-self
invariant_of-self g c =
    let s = c.args.self.now in
    let heard = sym (c.in-Some.ensures ∙ ap (hearing c.args.address c.args.register) c.as_slice.ensures.value) in
    let within = heard_within c.args.address c.args.register c.in-Some.index (vec_items s.watched) heard in
    let w = c.index_mut.result.now in
    let at = slice_get_read (vec_items s.watched) _ c.in-Some.index w refl within c.index_mut.ensures.value in
    record { named = named_put (vec_items s.watched) c.in-Some.index w c.take.new.watched s.named at c.take.ensures.entry }

pub returns-in-Some : goal.returns-in-Some
returns-in-Some g c =
    let s = c.args.self.now in
    let heard = sym (c.in-Some.ensures ∙ ap (hearing c.args.address c.args.register) c.as_slice.ensures.value) in
    let within = heard_within c.args.address c.args.register c.in-Some.index (vec_items s.watched) heard in
    let w = c.index_mut.result.now in
    let at = slice_get_read (vec_items s.watched) _ c.in-Some.index w refl within c.index_mut.ensures.value in
    let all =
    read_heard c.args.address c.args.register (state_of g.B.Bank.slots s) (state_over g.B.Bank.slots c.take.new.bus []) c.take.result
    c.in-Some.index heard s.named w c.take.new.watched at c.take.ensures.answer c.take.ensures.after in
    record { answer = all.0; after = all.1 }

pub returns-in-None : goal.returns-in-None
returns-in-None g c =
    let none = sym (c.in-None.ensures ∙ ap (hearing c.args.address c.args.register) c.as_slice.ensures.value) in
    let all =
    read_unheard c.args.address c.args.register (state_of g.B.Bank.slots c.args.self.now) (state_over g.B.Bank.slots c.read_register.new.bus [])
    c.read_register.result none c.read_register.ensures.answer c.read_register.ensures.after in
    record { answer = all.0; after = all.1 }
