-- Rows whose counters are not taken twice.
use Rattle.std.proofs.Common.{◌≡◌, ℕ, false, List, [], ◌∷◌, arith}
use Rattle.std.specs.List.{AllByRecursion}
use Rattle.std.proofs.ByRecursion.{All-weaker}
use Rattle.std.proofs.lemmas.Bool.Decides.{nat_tests}
use Rattle.rows.specs.Checks.{joined, place_in, places_of, is_taken}
use Rattle.rows.specs.Layouts.{HalvesAtMost, NoCounterTwice}
use Rattle.rows.specs.declared.row.Row.{Row}
use Rattle.rows.specs.declared.slot.Places.{Places}

-- what shares no counter with two shares none with both, and back
halves_join : (a b c : Places) → HalvesAtMost a c → HalvesAtMost b c → HalvesAtMost (joined a b) c
halves_join a b c first second = grind (arith, nat_tests)

halves_parts : (a b c : Places) → HalvesAtMost (joined a b) c → HalvesAtMost a c × HalvesAtMost b c
halves_parts a b c both = grind (arith, nat_tests)

halves_swap : (a b : Places) → HalvesAtMost a b → HalvesAtMost b a
halves_swap a b h = grind (arith, nat_tests)

-- counter by counter, what the test of a row says
not_taken_halves : (p : ℕ → Places) (row : Row) → is_taken row p ≡ false → (k : ℕ) → HalvesAtMost (p k) (place_in row k)
not_taken_halves p row free k = grind (arith, nat_tests)

halves_not_taken : (p : ℕ → Places) (row : Row) → ((k : ℕ) → HalvesAtMost (p k) (place_in row k)) → is_taken row p ≡ false
halves_not_taken p row apart = grind (arith, nat_tests, apart)

-- row by row
twice_from_halves : (rows : List Row) (row : Row) → ((k : ℕ) → HalvesAtMost (places_of rows k) (place_in row k)) → AllByRecursion (λ x. NoCounterTwice x row) rows
twice_from_halves [] row apart = tt
twice_from_halves (x ∷ rows) row apart =
    let parts = λ (k : ℕ). halves_parts (place_in x k) (places_of rows k) (place_in row k) (apart k) in
    (λ k. (parts k).0, twice_from_halves rows row (λ k. (parts k).1))

halves_from_twice : (rows : List Row) (row : Row) → AllByRecursion (λ x. NoCounterTwice x row) rows → (k : ℕ) → HalvesAtMost (places_of rows k) (place_in row k)
halves_from_twice [] row apart k = grind (arith, nat_tests)
halves_from_twice (x ∷ rows) row apart k =
    halves_join (place_in x k) (places_of rows k) (place_in row k) (apart.0 k) (halves_from_twice rows row apart.1 k)

-- the test of a row, row by row
pub twice_from_taken : (rows : List Row) (row : Row) → is_taken row (places_of rows) ≡ false → AllByRecursion (λ x. NoCounterTwice x row) rows
twice_from_taken rows row free = twice_from_halves rows row (not_taken_halves (places_of rows) row free)

pub taken_from_twice : (rows : List Row) (row : Row) → AllByRecursion (λ x. NoCounterTwice x row) rows → is_taken row (places_of rows) ≡ false
taken_from_twice rows row apart = halves_not_taken (places_of rows) row (halves_from_twice rows row apart)

-- a row and those behind it
pub halves_behind : (row : Row) (rest : List Row) → AllByRecursion (NoCounterTwice row) rest → (k : ℕ) → HalvesAtMost (place_in row k) (places_of rest k)
halves_behind row rest apart k =
    halves_swap (places_of rest k) (place_in row k)
    (halves_from_twice rest row (All-weaker (NoCounterTwice row) (λ x. NoCounterTwice x row) (λ x h j. halves_swap (place_in row j) (place_in x j) (h j)) rest apart) k)
