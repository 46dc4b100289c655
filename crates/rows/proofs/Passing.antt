-- Rows that pass lay every counter out whole, in one place.
use Rattle.std.proofs.Common.{◌≡◌, ℕ, ◌+◌, ◌-◌, ◌<◌, true, false, ◌⊎◌, List, [], ◌∷◌, is_some, Some, None, Option, sym, refl, ◌∙◌, subst, ⊎_elim, arith}
use Rattle.std.specs.List.{AllByRecursion}
use Rattle.std.proofs.lemmas.Bool.{cases_Bool, cond-true, cond-false}
use Rattle.std.proofs.lemmas.Bool.Decides.{nat_tests}
use Rattle.mmd.specs.Cells.{Cell, Field, blank, short, high_half, low_half, short_field, long_field}
use Rattle.mmd.specs.Invariant.{Sound, ShortAt, HighAt, LowAt}
use Rattle.rows.specs.Checks.{fault_of, joined, layout_of, place_in, places_of}
use Rattle.rows.specs.Layouts.{Apart, FormsLayout, HalvesAtMost, NoCounterTwice, Pairwise}
use Rattle.rows.specs.Rows.{cell_in, cell_of, content_of, covers, span_fits}
use Rattle.rows.specs.Slots.{field_of, narrow_short}
use Rattle.rows.specs.Orders.{rising}
use Rattle.rows.specs.declared.row.Row.{Row}
use Rattle.rows.specs.declared.slot.Places.{Places}
use Rattle.rows.specs.declared.slot.ShortPlace.{ShortPlace}
use Rattle.rows.proofs.Counters.{halves_behind}
use Rattle.rows.proofs.Formed.{fits_from_well_formed, passing_forms}

-- ---- a counter's parts: a short field, and the halves, each a whole register

data Part : Type 0 where
  short_part : Part
  high_part : Part
  low_part : Part

abbrev cell_part : Part → ℕ → ℕ → Cell
cell_part short_part k p = short k p
cell_part high_part k p = high_half k p
cell_part low_part k p = low_half k p

abbrev register_whole : Option ℕ → Option ShortPlace
register_whole None = None
register_whole (Some r) = Some (record { register = r; low = 0; width = 16 })

abbrev part_of : Part → Places → Option ShortPlace
part_of short_part p = p.short
part_of high_part p = register_whole p.high
part_of low_part p = register_whole p.low

-- register r, bit b is place p of the span
abbrev Within : ℕ → ℕ → ℕ → Option ShortPlace → Type 0
Within r b p None = ⊥
Within r b p (Some s) = (s.register ≡ r) × (b ≡ s.low + p) × (p < s.width)

-- ---- one row

row_places : (part : Part) (row : Row) (r b k p : ℕ) → span_fits row ≡ true → covers row r b ≡ true → cell_in (content_of row) (b - row.low) ≡ cell_part part k p → Within r b p (part_of part (place_in row k))
unfolding span_fits
row_places part row r b k p fits here shows = grind (arith, nat_tests)

row_whole : (part : Part) (row : Row) (r b k p : ℕ) → span_fits row ≡ true → Within r b p (part_of part (place_in row k)) → (covers row r b ≡ true) × (cell_in (content_of row) (b - row.low) ≡ cell_part part k p)
unfolding span_fits
row_whole part row r b k p fits within = grind (arith, nat_tests)

-- ---- the first row that has a part, and those behind it

within_first : (part : Part) (p q : Places) (r b n : ℕ) → Within r b n (part_of part p) → Within r b n (part_of part (joined p q))
within_first part p q r b n here = grind (arith, nat_tests)

within_second : (part : Part) (p q : Places) (r b n : ℕ) → HalvesAtMost p q → Within r b n (part_of part q) → Within r b n (part_of part (joined p q))
within_second part p q r b n apart behind = grind (arith, nat_tests)

within_cases : (part : Part) (p q : Places) (r b n : ℕ) → Within r b n (part_of part (joined p q)) → Within r b n (part_of part p) ⊎ Within r b n (part_of part q)
within_cases part p q r b n within = grind (arith, nat_tests)

blank_behind : (row : Row) (rest : List Row) (r b : ℕ) → AllByRecursion (Apart row) rest → covers row r b ≡ true → cell_of rest r b ≡ blank
blank_behind row [] r b apart here = refl
blank_behind row (x ∷ rest) r b apart here =
    let beside = apart.0 r b here in let behind = blank_behind row rest r b apart.1 here in grind (arith, nat_tests)

beside_shown : (part : Part) (row : Row) (rest : List Row) (r b k p : ℕ) → AllByRecursion (Apart row) rest → cell_of rest r b ≡ cell_part part k p → covers row r b ≡ false
beside_shown part row rest r b k p apart shown =
    ⊎_elim (λ (here : covers row r b ≡ true). let none = blank_behind row rest r b apart here in grind (arith, nat_tests)) (λ beside. beside) (cases_Bool (covers row r b))

-- ---- every row

-- the cells of a counter's part stand where it is
placed : (part : Part) (rows : List Row) (r b k p : ℕ) → AllByRecursion (λ row. span_fits row ≡ true) rows → Pairwise NoCounterTwice rows → cell_of rows r b ≡ cell_part part k p → Within r b p (part_of part (places_of rows k))
placed part [] r b k p fit once shows = grind (arith, nat_tests)
placed part (row ∷ rest) r b k p fit once shows =
    ⊎_elim
    (λ here. within_first part (place_in row k) (places_of rest k) r b p (row_places part row r b k p fit.0 here (sym (cond-true (covers row r b) _ _ here) ∙ shows)))
    (λ beside. within_second part (place_in row k) (places_of rest k) r b p (halves_behind row rest once.0 k)
    (placed part rest r b k p fit.1 once.1 (sym (cond-false (covers row r b) _ _ beside) ∙ shows)))
    (cases_Bool (covers row r b))

-- and a part has all its cells
whole : (part : Part) (rows : List Row) (r b k p : ℕ) → AllByRecursion (λ row. span_fits row ≡ true) rows → Pairwise Apart rows → Within r b p (part_of part (places_of rows k)) → cell_of rows r b ≡ cell_part part k p
whole part [] r b k p fit apart within = grind (arith, nat_tests)
whole part (row ∷ rest) r b k p fit apart within =
    ⊎_elim
    (λ here. let covered = row_whole part row r b k p fit.0 here in cond-true (covers row r b) _ _ covered.0 ∙ covered.1)
    (λ behind.
    let shown = whole part rest r b k p fit.1 apart.1 behind in
    cond-false (covers row r b) _ _ (beside_shown part row rest r b k p apart.0 shown) ∙ shown)
    (within_cases part (place_in row k) (places_of rest k) r b p within)

-- a counter with a short field has no half
abbrev ShortAlone : Places → Type 0
ShortAlone p = is_some p.short ≡ true → (p.high ≡ None) × (p.low ≡ None)

short_alone : (rows : List Row) → Pairwise NoCounterTwice rows → (k : ℕ) → ShortAlone (places_of rows k)
short_alone [] once k = grind (arith, nat_tests)
short_alone (row ∷ rest) once k =
    let apart = halves_behind row rest once.0 k in let behind = short_alone rest once.1 k in grind (arith, nat_tests)

-- ---- fields

abbrev At : Part → ℕ → ℕ → ℕ → Field → Type 0
At short_part r b p f = ShortAt r b p f
At high_part r b p f = HighAt r b p f
At low_part r b p f = LowAt r b p f

at_field : (part : Part) (p : Places) (r b n : ℕ) → ShortAlone p → is_some p.high ≡ is_some p.low → Within r b n (part_of part p) → At part r b n (field_of p)
at_field part p r b n alone paired within = grind (arith, nat_tests)

within_field : (part : Part) (p : Places) (r b n : ℕ) → At part r b n (field_of p) → Within r b n (part_of part p)
within_field part p r b n there = grind (arith, nat_tests)

-- ---- what is asked of a layout

module _ (rows : List Row) (forms : FormsLayout rows) where
  cell_placed : (part : Part) (r b k p : ℕ) → cell_of rows r b ≡ cell_part part k p → At part r b p (field_of (places_of rows k))
  cell_placed part r b k p shows =
      at_field part (places_of rows k) r b p (short_alone rows forms.no_counter_twice k) (forms.halves_paired k)
      (placed part rows r b k p (fits_from_well_formed rows forms.well_formed) forms.no_counter_twice shows)

  field_whole : (part : Part) (r b k p : ℕ) (f : Field) → field_of (places_of rows k) ≡ f → At part r b p f → cell_of rows r b ≡ cell_part part k p
  field_whole part r b k p f is there =
      whole part rows r b k p (fits_from_well_formed rows forms.well_formed) forms.no_bit_shared (within_field part (places_of rows k) r b p (subst (At part r b p) (sym is) there))

  pub forms_sound : Sound (layout_of rows)
  unfolding layout_of
  forms_sound =
      record {
        short_placed = cell_placed short_part;
        high_placed = cell_placed high_part;
        low_placed = cell_placed low_part;
        short_whole = λ k r low w p is within. field_whole short_part r (low + p) k p (short_field r low w) is (refl, refl, within);
        high_whole = λ k r q p is within. field_whole high_part r p k p (long_field r q) is (refl, refl, within);
        low_whole = λ k r q p is within. field_whole low_part q p k p (long_field r q) is (refl, refl, within);
      }

pub passing_sound : (rows : List Row) → fault_of rows ≡ None → Sound (layout_of rows)
passing_sound rows free = forms_sound rows (passing_forms rows free).0

pub passing_fits : (rows : List Row) → fault_of rows ≡ None → AllByRecursion (λ row. span_fits row ≡ true) rows
passing_fits rows free = fits_from_well_formed rows (passing_forms rows free).0.well_formed

pub passing_rises : (rows : List Row) → fault_of rows ≡ None → rising rows ≡ true
passing_rises rows free = (passing_forms rows free).1

fitting_narrow : (rows : List Row) → AllByRecursion (λ row. span_fits row ≡ true) rows → (k : ℕ) → narrow_short (places_of rows k).short ≡ true
unfolding span_fits
fitting_narrow [] fit k = refl
fitting_narrow (row ∷ rest) fit k = let behind = fitting_narrow rest fit.1 k in grind (arith, nat_tests)

pub passing_narrow : (rows : List Row) → fault_of rows ≡ None → (k : ℕ) → narrow_short (places_of rows k).short ≡ true
passing_narrow rows free = fitting_narrow rows (passing_fits rows free)
