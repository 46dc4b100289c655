use Rattle.std.proofs.Common.{sym, subst}
use Rattle.mmd.proofs.Kept.{new_settled}
use Rattle.mmd.specs.Invariant.{Settled}
use Rattle.rows.specs.Checks.{layout_of}
use Rattle.table_mmd.proofs.Filled.{new_laid, new_means}
use Rattle.table_mmd.proofs.table.TableMmd.fill.Goals as goal

pub invariant_of-result : goal.invariant_of-result
invariant_of-result c =
    let passed = c.in_ok-slots.ensures in
    record { laid = ∣ new_laid c.args.rows.now _ c.in_ok-slots.slots passed.0 c.in_ok-entries.ensures passed.1 ∣₁ }

pub returns-clause-filled : goal.returns-clause-filled
returns-clause-filled c =
    let rows = c.args.rows.now in
    let passed = c.in_ok-slots.ensures in
    let means = new_means rows _ c.in_ok-slots.slots c.in_ok-entries.ensures passed.1 in
    (passed.0, means, subst Settled (sym means) (new_settled (layout_of rows)))
