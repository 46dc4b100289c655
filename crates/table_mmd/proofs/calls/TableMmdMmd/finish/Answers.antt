use Rattle.std.proofs.Common.{rules, cond, Ok, Err, vec_items, sym, refl, ap, ◌∙◌, subst}
use mathlib.Core.Logic.{∥∥₁_map}
use Rattle.table_mmd.specs.Changes.{finish_bit}
use Rattle.table_mmd.specs.Tables.{Laid, table_meaning}
use Rattle.table_mmd.proofs.After.{finish_means}
use Rattle.table_mmd.proofs.Laid.{finish_laid}
use Rattle.table_mmd.proofs.Walked.{walked_by}
use Rattle.mmd.specs.Refusals.{finish_answer}
use Rattle.mmd.specs.Cells.{is_self_clearing}
use Rattle.mmd.specs.declared.refusal.MmdRefusal.TheVariants.{NotSelfClearing}
use Rattle.table_mmd.specs.Entries.{rows_of}
use Rattle.rows.specs.Rows.{cell_of}
use Rattle.table_mmd.proofs.calls.TableMmdMmd.finish.Goals as goal

pub returns-then-not-is_self_clearing : goal.returns-then-not-is_self_clearing
unfolding finish_answer table_meaning
returns-then-not-is_self_clearing c =
    let clears = c.if-not-is_self_clearing.ensures ∙ ap (λ es. is_self_clearing (cell_of (rows_of es) c.args.register c.args.bit)) c.as_slice.ensures.value in
    record { answer = ap (λ v. cond v (Ok tt) (Err NotSelfClearing)) clears; after = refl }

pub invariant_of-self : goal.invariant_of-self
invariant_of-self c =
    let t = c.args.self.now in
    let rows = walked_by t.entries (finish_bit c.args.register c.args.bit) _ _ _ (λ x y r. search rules) c.as_mut_slice.ensures.value c.change_all.ensures in
    record { laid = subst (λ es. ∥ Laid es t.live.lines t.live.slots ∥₁) (sym rows) (∥∥₁_map t.laid (λ laid. finish_laid _ _ _ laid c.args.register c.args.bit)) }

pub returns : goal.returns
unfolding finish_answer table_meaning
returns c =
    let t = c.args.self.now in
    let rows = walked_by t.entries (finish_bit c.args.register c.args.bit) _ _ _ (λ x y r. search rules) c.as_mut_slice.ensures.value c.change_all.ensures in
    let clears = c.if-not-is_self_clearing.ensures ∙ ap (λ es. is_self_clearing (cell_of (rows_of es) c.args.register c.args.bit)) c.as_slice.ensures.value in
    record {
      answer = ap (λ v. cond v (Ok tt) (Err NotSelfClearing)) clears;
      after = ap (λ es. table_meaning es t.live.lines t.live.slots) rows
          ∙ finish_means (vec_items t.entries) t.live.lines t.live.slots c.args.register c.args.bit;
    }
