use Rattle.std.proofs.Common.{None, sym, ◌∙◌, subst, arith}
use Rattle.rows.specs.Checks.{Joins}
use Rattle.rows.proofs.Checked.{first_fault_at, slots_more}
use Rattle.rows.proofs.Spans.{zero_row}
use Rattle.rows.proofs.check.place_all.Goals as goal

pub loop-place-preserved : goal.loop-place-preserved
loop-place-preserved c =
    let rows = c.args.rows.now in
    let i = c.loop-place.place in
    let passed = c.in-Ok.ensures in (
      omega arith,
      c.loop-place.invariant.1 ∙ first_fault_at rows i zero_row None c.loop-place-test.true (sym passed.0),
      slots_more rows i zero_row c.loop-place.slots c.note.new.slots c.loop-place-test.true c.loop-place.invariant.2
          (subst (λ row. Joins row c.loop-place.slots c.note.new.slots) passed.1 c.note.ensures),
    )
