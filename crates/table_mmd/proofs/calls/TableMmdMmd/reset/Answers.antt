use Rattle.std.proofs.Common.{rules, vec_items, ◌∙◌, ap₂}
use mathlib.Core.Logic.{∥∥₁_map}
use Rattle.table_mmd.specs.Changes.{reset_row}
use Rattle.table_mmd.specs.Counts.{slot_reset}
use Rattle.table_mmd.specs.Tables.{table_meaning}
use Rattle.table_mmd.proofs.After.{reset_means}
use Rattle.table_mmd.proofs.Laid.{laid_as, reset_laid}
use Rattle.table_mmd.proofs.Walked.{each_by, walked_by}
use Rattle.table_mmd.proofs.calls.TableMmdMmd.reset.Goals as goal

pub invariant_of-self : goal.invariant_of-self
invariant_of-self c =
    let t = c.args.self.now in
    let rows = walked_by t.entries (reset_row t.live.lines) _ _ _ (λ x y r. search rules) c.as_mut_slice.ensures.value c.change_all.ensures in
    record { laid = laid_as t.live.lines rows (each_by slot_reset _ _ _ (λ x y r. search rules) c.change_all-2.ensures) (∥∥₁_map t.laid (λ laid. reset_laid _ _ _ laid)) }

pub returns : goal.returns
returns c =
    let t = c.args.self.now in
    let rows = walked_by t.entries (reset_row t.live.lines) _ _ _ (λ x y r. search rules) c.as_mut_slice.ensures.value c.change_all.ensures in
    ap₂ (λ es slots. table_meaning es t.live.lines slots) rows (each_by slot_reset _ _ _ (λ x y r. search rules) c.change_all-2.ensures)
    ∙ reset_means (vec_items t.entries) t.live.lines t.live.slots
