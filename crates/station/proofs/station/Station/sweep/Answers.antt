use Rattle.std.proofs.Common.{[], sym, ap, ◌∙◌, arith}
use Rattle.std.proofs.lemmas.List.{with_items_is}
use Rattle.std.proofs.lemmas.Option.{slice_get-get_or}
use Rattle.promise.specs.Rules.{swept}
use Rattle.watch_list.specs.Entries.{is_of}
use Rattle.station.specs.Named.{all_named}
use Rattle.station.specs.Stations.{state_of, state_over}
use Rattle.station.proofs.Named.{named_nth}
use Rattle.station.proofs.Swept.{swept_none, swept_other, swept_taken}
use Rattle.station.proofs.station.Station.sweep.Goals as goal
use Rattle.station.proofs.station.Station.sweep.Goals.{then-is_of, else-is_of}

pub loop-watched-init : goal.loop-watched-init
loop-watched-init g c =
    let s = c.args.self.now in
    let lent = c.deref_mut-watched-items.ensures.value in
    (ap (state_over g.B.Bank.slots s.bus) lent ∙ swept_none c.args.address (state_of g.B.Bank.slots s), ap all_named lent ∙ s.named)

pub take-requires : goal.take-requires
take-requires g c =
    let ws = c.loop-watched.watched-items in
    named_nth ws c.loop-watched.watched-index _ c.loop-watched.invariant.1 (slice_get-get_or ws c.loop-watched.watched-index _ (omega arith))

pub loop-watched-preserved : goal.loop-watched-preserved
loop-watched-preserved g c =
    let slots = g.B.Bank.slots in
    let m = state_of slots c.args.self.now in
    let s = state_over slots c.loop-watched.self.1.0 c.loop-watched.watched-items in
    let i = c.loop-watched.watched-index in
    let so_far = c.loop-watched.invariant in
    let of_it = sym (c.is_of.ensures ∙ ap (is_of c.args.address) c.entry.ensures) in
    elim c.if-is_of.branch [
      | then-is_of v ↦ rw (v.self-is, v.watched-items-is)
          (swept_taken c.args.address i m s _ (omega arith) so_far.0 so_far.1 (state_over slots v.take.new.bus []) v.take.new.watched (of_it ∙ v.if-is_of.true) v.take.ensures.after v.take.ensures.entry)
      | else-is_of v ↦ rw (v.self-is, v.watched-items-is) (swept_other c.args.address i m s _ (omega arith) so_far.0 so_far.1 (of_it ∙ v.if-is_of.false))
    ]

pub returns : goal.returns
returns g c =
    let s = c.args.self.now in
    let m = state_of g.B.Bank.slots s in
    let left = with_items_is s.watched c.loop-watched.watched-items (omega (arith, s.watched.ok.0)) in
    ap (state_over g.B.Bank.slots c.loop-watched.self.1.0) left ∙ c.loop-watched.invariant.0 ∙ ap (λ k. swept c.args.address k m) (omega (arith, s.watched.ok.0))
