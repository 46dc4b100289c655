use Rattle.std.proofs.Common.{◌+◌, ◌<◌, length, get_or, set, take, sym, refl, ap, ◌∙◌, subst, arith}
use Rattle.std.proofs.lemmas.List.Edits.{map_over_more}
use Rattle.std.proofs.lemmas.List.{get_or_default}
use Rattle.bits.proofs.Bits.{bit_zero}
use Rattle.table_mmd.specs.Changes.{relatch}
use Rattle.table_mmd.specs.Entries.{HasBits, any_shows, row_shows}
use Rattle.table_mmd.proofs.Walks.{not_yet_changed, any_shows_more, any_shows_past, relatch_elsewhere}
use Rattle.table_mmd.proofs.change.read_all.Goals.{then-entry-register, else-entry-register}
use Rattle.table_mmd.proofs.change.read_all.Goals as goal

pub loop-entry-init : goal.loop-entry-init
loop-entry-init c = (omega arith, refl, bit_zero)

pub loop-entry-preserved : goal.loop-entry-preserved
loop-entry-preserved c =
    let xs = c.args.entries.now in
    let ys = c.loop-entry.entries in
    let i = c.loop-entry.entry-index in
    let d = c.entry-item.result in
    let live = c.args.live.now in
    let r = c.args.register in
    let f = relatch live.lines r in
    let within : i < length xs = omega arith in
    let x = get_or ys i d in
    let same = not_yet_changed f xs ys i d within c.loop-entry.invariant.1 in
    let next = map_over_more f xs ys i x within c.loop-entry.invariant.1 (get_or_default ys i d x (omega arith)) in
    elim c.if-entry-register.branch [
      | then-entry-register w ↦
          let here : HasBits (row_shows live.lines live.slots r (get_or xs i d)) w.shown-word.result = subst (λ e. HasBits (row_shows live.lines live.slots r e) w.shown-word.result) same w.shown-word.ensures in (
            omega arith,
            w.entries-is ∙ ap (set ys i) w.read.ensures ∙ next,
            subst (HasBits (any_shows live.lines live.slots r (take (i + 1) xs))) (sym w.word-is) (any_shows_more live.lines live.slots r xs i d c.loop-entry.word w.shown-word.result within c.loop-entry.invariant.2 here),
          )
      | else-entry-register w ↦ (
        omega arith,
        w.entries-is ∙ ap (set ys i) (sym (relatch_elsewhere live.lines r x w.if-entry-register.false)) ∙ next,
        subst (HasBits (any_shows live.lines live.slots r (take (i + 1) xs))) (sym w.word-is) (any_shows_past live.lines live.slots r xs i d c.loop-entry.word within (λ e. w.if-entry-register.false (ap (λ y. y.row.listed.register) same ∙ e)) c.loop-entry.invariant.2),
      )
    ]
