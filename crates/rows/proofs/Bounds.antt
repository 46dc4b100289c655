-- Well-formed rows lay nothing out above bit 15 or counter 15.
use Rattle.std.proofs.Common.{◌≡◌, ℕ, ◌≤◌, true, false, List, [], ◌∷◌, refl, ap, ◌∙◌, ap₂, arith}
use Rattle.std.specs.List.{AllByRecursion}
use Rattle.std.proofs.lemmas.Bool.{cond-false}
use Rattle.std.proofs.lemmas.Bool.Decides.{nat_tests}
use Rattle.mmd.specs.Cells.{blank, no_field}
use Rattle.mmd.specs.Alike.{Within}
use Rattle.rows.specs.Checks.{joined, layout_of, place_in, places_of}
use Rattle.rows.specs.Layouts.{WellFormed}
use Rattle.rows.specs.Rows.{cell_of, covers, number_fits}
use Rattle.rows.specs.Slots.{field_of, nowhere}
use Rattle.rows.specs.declared.row.Row.{Row}
use Rattle.rows.proofs.Spans.{span_within}

not_covered : (row : Row) (r b : ℕ) → WellFormed row → 16 ≤ b → covers row r b ≡ false
not_covered row r b formed above = let within = span_within row formed.1 in grind (arith, nat_tests)

pub blank_above : (rows : List Row) (r b : ℕ) → AllByRecursion WellFormed rows → 16 ≤ b → cell_of rows r b ≡ blank
blank_above [] r b formed above = refl
blank_above (row ∷ rest) r b formed above =
    cond-false (covers row r b) _ _ (not_covered row r b formed.0 above) ∙ blank_above rest r b formed.1 above

no_place : (row : Row) (k : ℕ) → number_fits row ≡ true → 16 ≤ k → place_in row k ≡ nowhere
no_place row k fits above = grind (arith, nat_tests)

nowhere_above : (rows : List Row) (k : ℕ) → AllByRecursion WellFormed rows → 16 ≤ k → places_of rows k ≡ nowhere
nowhere_above [] k formed above = refl
nowhere_above (row ∷ rest) k formed above =
    ap₂ joined (no_place row k formed.0.2 above) (nowhere_above rest k formed.1 above)

pub no_field_above : (rows : List Row) (k : ℕ) → AllByRecursion WellFormed rows → 16 ≤ k → field_of (places_of rows k) ≡ no_field
no_field_above rows k formed above = ap field_of (nowhere_above rows k formed above)

pub layout_within : (rows : List Row) → AllByRecursion WellFormed rows → Within (layout_of rows)
unfolding layout_of
layout_within rows formed =
    record {
      blank_above_15 = λ r b above. blank_above rows r b formed above;
      no_field_above_15 = λ k above. no_field_above rows k formed above;
    }
