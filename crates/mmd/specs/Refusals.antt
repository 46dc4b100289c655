-- What an MMD refuses, and the refusals' numbers on the card.
use Rattle.std.specs.Prelude.{ℕ, cond, Ok, Err, Result}
use Rattle.mmd.specs.declared.refusal.MmdRefusal.{MmdRefusal}
use Rattle.mmd.specs.declared.refusal.MmdRefusal.TheVariants.{NoField, NotSelfClearing}
use Rattle.mmd.specs.Cells.{has_field, is_self_clearing}
use Rattle.mmd.specs.Meaning.{Meaning}

abbrev pub number_of : MmdRefusal → ℕ
number_of NoField = 6
number_of NotSelfClearing = 7

-- a count is refused for a number without field
unfoldable pub count_answer : Meaning → ℕ → Result (Unit {0}) MmdRefusal
count_answer m k = cond (has_field (m.layout.field k)) (Ok tt) (Err NoField)

-- a finish is refused at a bit that is not self-clearing
unfoldable pub finish_answer : Meaning → ℕ → ℕ → Result (Unit {0}) MmdRefusal
finish_answer m r b = cond (is_self_clearing (m.layout.cell r b)) (Ok tt) (Err NotSelfClearing)
