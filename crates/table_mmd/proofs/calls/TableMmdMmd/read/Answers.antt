use Rattle.std.proofs.Common.{rules, vec_items, ◌∙◌, subst, ap₂}
use mathlib.Core.Logic.{∥∥₁_map}
use Rattle.table_mmd.specs.Changes.{relatch}
use Rattle.table_mmd.specs.Counts.{slot_read}
use Rattle.table_mmd.specs.Tables.{table_meaning}
use Rattle.table_mmd.proofs.After.{read_means}
use Rattle.table_mmd.proofs.Laid.{apart_of, laid_as, read_laid}
use Rattle.table_mmd.proofs.Walked.{each_by, walked}
use Rattle.table_mmd.specs.Entries.{HasBits, any_shows}
use Rattle.table_mmd.proofs.Shown.{read_word_is}
use Rattle.table_mmd.proofs.calls.TableMmdMmd.read.Goals as goal

pub invariant_of-self : goal.invariant_of-self
invariant_of-self c =
    let t = c.args.self.now in
    let rows = walked t.entries (relatch t.live.lines c.args.register) _ _ c.as_mut_slice.ensures.value c.read_all-word.ensures.after in
    record { laid = laid_as t.live.lines rows (each_by (slot_read c.args.register) _ _ _ (λ x y r. search rules) c.change_all.ensures) (∥∥₁_map t.laid (λ laid. read_laid _ _ _ laid c.args.register)) }

pub returns : goal.returns
returns c =
    let t = c.args.self.now in
    let rows = walked t.entries (relatch t.live.lines c.args.register) _ _ c.as_mut_slice.ensures.value c.read_all-word.ensures.after in
    record {
      word = read_word_is (vec_items t.entries) t.live.lines t.live.slots c.args.register c.read_all-word.result (apart_of t.laid) c.read_all-word.type_inv
          (subst (λ es. HasBits (any_shows t.live.lines t.live.slots c.args.register es) c.read_all-word.result) c.as_mut_slice.ensures.value c.read_all-word.ensures.shown);
      after = ap₂ (λ es slots. table_meaning es t.live.lines slots) rows (each_by (slot_read c.args.register) _ _ _ (λ x y r. search rules) c.change_all.ensures)
          ∙ read_means (vec_items t.entries) t.live.lines t.live.slots c.args.register;
    }
