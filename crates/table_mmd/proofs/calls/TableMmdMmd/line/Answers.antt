use Rattle.std.proofs.Common.{rules, vec_items, sym, ap, ◌∙◌, subst, arith}
use mathlib.Core.Logic.{∥∥₁_map}
use Rattle.table_mmd.specs.Changes.{move_line}
use Rattle.table_mmd.specs.Tables.{Laid, table_meaning}
use Rattle.table_mmd.proofs.After.{line_means, no_line_means}
use Rattle.table_mmd.proofs.Laid.{line_laid}
use Rattle.table_mmd.proofs.Walked.{walked_by}
use Rattle.table_mmd.proofs.calls.TableMmdMmd.line.Goals as goal

pub invariant_of-self : goal.invariant_of-self
invariant_of-self c =
    let t = c.args.self.now in
    let rows = walked_by t.entries (move_line c.args.number c.args.up) _ _ _ (λ x y r. search rules) c.as_mut_slice.ensures.value c.change_all.ensures in
    record { laid = subst (λ es. ∥ Laid es c.with_bit-self.result t.live.slots ∥₁) (sym rows) (∥∥₁_map t.laid (λ laid. line_laid _ _ _ laid c.args.number c.args.up c.with_bit-self.result (omega arith) c.with_bit-self.ensures)) }

pub returns-then-number-lt32 : goal.returns-then-number-lt32
returns-then-number-lt32 c =
    let t = c.args.self.now in
    let rows = walked_by t.entries (move_line c.args.number c.args.up) _ _ _ (λ x y r. search rules) c.as_mut_slice.ensures.value c.change_all.ensures in
    ap (λ es. table_meaning es c.with_bit-self.result t.live.slots) rows
    ∙ line_means (vec_items t.entries) t.live.lines t.live.slots c.args.number c.args.up c.with_bit-self.result (omega arith) c.with_bit-self.ensures

pub returns-else-number-lt32 : goal.returns-else-number-lt32
returns-else-number-lt32 c =
    let t = c.args.self.now in
    no_line_means (vec_items t.entries) t.live.lines t.live.slots c.args.number c.args.up (omega arith)
