-- When rows form a layout, in the rules' own words.
use Rattle.std.specs.Prelude.{◌≡◌, ℕ, true, false, ◌&&◌, List, [], ◌∷◌, is_some}
use Rattle.std.specs.List.{AllByRecursion}
use Rattle.rows.specs.Checks.{kind_listed, place_in, places_of}
use Rattle.rows.specs.Rows.{covers, number_fits, span_fits}
use Rattle.rows.specs.Slots.{nowhere}
use Rattle.rows.specs.declared.row.Row.{Row}
use Rattle.rows.specs.declared.slot.Places.{Places}

-- a row is well formed: its kind is listed, its span fits the kind, and its number fits both
abbrev pub WellFormed : Row → Type 0
WellFormed row = (kind_listed row ≡ true) × (span_fits row ≡ true) × (number_fits row ≡ true)

-- two rows share no bit
abbrev pub Apart : Row → Row → Type 0
Apart x y = (r b : ℕ) → covers x r b ≡ true → covers y r b ≡ false

-- of two rows that name one counter neither is a short field, and they are not the same half
abbrev pub HalvesAtMost : Places → Places → Type 0
HalvesAtMost p q =
    (is_some p.short ≡ true → q ≡ nowhere) × (is_some q.short ≡ true → p ≡ nowhere)
    × ((is_some p.high && is_some q.high) ≡ false) × ((is_some p.low && is_some q.low) ≡ false)

abbrev pub NoCounterTwice : Row → Row → Type 0
NoCounterTwice x y = (k : ℕ) → HalvesAtMost (place_in x k) (place_in y k)

-- what holds of every row and each one behind it
abbrev pub Pairwise : (Row → Row → Type 0) → List Row → Type 0
Pairwise R [] = Unit {0}
Pairwise R (x ∷ xs) = AllByRecursion (R x) xs × Pairwise R xs

-- each row is well formed, no bit is shared, and a counter number has one short field, or one of each half, or nothing
pub record FormsLayout (rows : List Row) : Type 0 where
  pub well_formed : AllByRecursion WellFormed rows
  pub no_bit_shared : Pairwise Apart rows
  pub no_counter_twice : Pairwise NoCounterTwice rows
  pub halves_paired : (k : ℕ) → is_some (places_of rows k).high ≡ is_some (places_of rows k).low
