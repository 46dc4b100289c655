use Rattle.std.proofs.Common.{◌≡◌, ◌<◌, cond, length, get_or, set, Ok, Err, vec_items, sym, ap, ◌∙◌, subst, arith}
use mathlib.Core.Logic.{∥∥₁_map}
use Rattle.std.proofs.lemmas.List.{get_or_past}
use Rattle.std.proofs.lemmas.Result.{err_from_is_err_and}
use Rattle.std.proofs.lemmas.Bool.Decides.{nat_tests}
use Rattle.mmd.specs.Cells.{has_field}
use Rattle.mmd.specs.declared.refusal.MmdRefusal.TheVariants.{NoField}
use Rattle.mmd.specs.Events.{after_count}
use Rattle.mmd.specs.Refusals.{count_answer}
use Rattle.table_mmd.specs.Counts.{slot_counted}
use Rattle.rows.specs.Slots.{empty_slot, field_of}
use Rattle.table_mmd.specs.Tables.{Laid, table_meaning}
use Rattle.table_mmd.proofs.After.{count_means}
use Rattle.table_mmd.proofs.Laid.{narrow_of, narrow_at, slots_of, count_laid}
use Rattle.table_mmd.proofs.calls.TableMmdMmd.count.Goals as goal

pub counted-requires : goal.counted-requires
counted-requires c = narrow_at c.args.self.now.live.slots c.from-place.result (narrow_of c.args.self.now.laid)

pub returns-then-place-ge16-clause-answer : goal.returns-then-place-ge16-clause-answer
unfolding count_answer table_meaning
returns-then-place-ge16-clause-answer c =
    let t = c.args.self.now in
    let long = slots_of t.laid in
    let past = get_or_past t.live.slots c.args.counter empty_slot (omega arith) in
    ap (λ s. cond (has_field (field_of s.places)) (Ok tt) (Err NoField)) (sym past)

pub returns-in_err-self-clause-answer : goal.returns-in_err-self-clause-answer
unfolding count_answer table_meaning
returns-in_err-self-clause-answer c =
    let exit = err_from_is_err_and c.from_residual.result c.from_residual.ensures.1 in
    let told = c.in_err-self.ensures in
    rw (exit.1, exit.2) (grind (arith, nat_tests))

pub invariant_of-self : goal.invariant_of-self
invariant_of-self c =
    let t = c.args.self.now in
    let k = c.from-place.result in
    let within : k < length t.live.slots = let long = slots_of t.laid in omega arith in
    let told = c.in_ok-self.ensures in
    let counted : c.in_ok-self.field-0 ≡ slot_counted c.args.amount (get_or t.live.slots k empty_slot) = grind (arith, nat_tests) in
    record { laid = subst (λ s. ∥ Laid (vec_items t.entries) t.live.lines (set t.live.slots k s) ∥₁) (sym counted) (∥∥₁_map t.laid (λ laid. count_laid _ _ _ laid k c.args.amount within)) }

pub returns-clause-answer : goal.returns-clause-answer
unfolding count_answer table_meaning
returns-clause-answer c = let told = c.in_ok-self.ensures in grind (arith, nat_tests)

pub returns-clause-after : goal.returns-clause-after
unfolding table_meaning
returns-clause-after c =
    let t = c.args.self.now in
    let k = c.from-place.result in
    let within : k < length t.live.slots = let long = slots_of t.laid in omega arith in
    let told = c.in_ok-self.ensures in
    let counted : c.in_ok-self.field-0 ≡ slot_counted c.args.amount (get_or t.live.slots k empty_slot) = grind (arith, nat_tests) in
    ap (λ s. table_meaning (vec_items t.entries) t.live.lines (set t.live.slots k s)) counted
    ∙ count_means (vec_items t.entries) t.live.lines t.live.slots k c.args.amount within
    ∙ ap (λ n. after_count (table_meaning (vec_items t.entries) t.live.lines t.live.slots) n c.args.amount) c.from-place.ensures
