use Rattle.std.proofs.Common.{rules, vec_items, sym, ap, ◌∙◌, subst}
use mathlib.Core.Logic.{∥∥₁_map}
use Rattle.table_mmd.specs.Changes.{write_row}
use Rattle.table_mmd.specs.Tables.{Laid, table_meaning}
use Rattle.table_mmd.proofs.After.{write_means}
use Rattle.table_mmd.proofs.Laid.{write_laid}
use Rattle.table_mmd.proofs.Walked.{walked_by}
use Rattle.table_mmd.proofs.calls.TableMmdMmd.write.Goals as goal

pub invariant_of-self : goal.invariant_of-self
invariant_of-self c =
    let t = c.args.self.now in
    let rows = walked_by t.entries (write_row c.args.register c.args.word) _ _ _ (λ x y r. search rules) c.as_mut_slice.ensures.value c.change_all.ensures in
    record { laid = subst (λ es. ∥ Laid es t.live.lines t.live.slots ∥₁) (sym rows) (∥∥₁_map t.laid (λ laid. write_laid _ _ _ laid c.args.register c.args.word)) }

pub returns : goal.returns
returns c =
    let t = c.args.self.now in
    let rows = walked_by t.entries (write_row c.args.register c.args.word) _ _ _ (λ x y r. search rules) c.as_mut_slice.ensures.value c.change_all.ensures in
    ap (λ es. table_meaning es t.live.lines t.live.slots) rows
    ∙ write_means (vec_items t.entries) t.live.lines t.live.slots c.args.register c.args.word
