-- Rows pass the tests exactly when they form a layout and rise.
use Rattle.std.proofs.Common.{◌≡◌, ℕ, ◌+◌, ◌≤◌, true, false, ◌&&◌, List, [], ◌∷◌, ◌++◌, length, is_some, None, Option, sym, refl, ◌∙◌, append_assoc, append-nil, arith}
use Rattle.std.specs.Option.{option_or}
use Rattle.std.specs.List.{AllByRecursion}
use Rattle.std.proofs.ByRecursion.{All-push, All-weaker}
use Rattle.std.proofs.lemmas.Bool.{and_parts}
use Rattle.std.proofs.lemmas.Bool.Decides.{nat_tests}
use Rattle.rows.specs.Checks.{fault_of, first_fault, first_partnerless, follows, located, places_of, row_fault, is_taken}
use Rattle.rows.specs.Layouts.{FormsLayout, NoCounterTwice, Pairwise, WellFormed}
use Rattle.rows.specs.Rows.{span_fits}
use Rattle.rows.specs.Orders.{rising, rising_after}
use Rattle.fault_at.specs.declared.FaultAt.{FaultAt}
use Rattle.rows.specs.declared.fault.TableFault.{TableFault}
use Rattle.rows.specs.declared.row.Row.{Row}
use Rattle.rows.specs.declared.slot.Places.{Places}
use Rattle.rows.proofs.Counters.{taken_from_twice, twice_from_taken}
use Rattle.rows.proofs.Disjoint.{rising_apart}

-- ---- one row behind others

all_at : (P : Row → Type 0) (xs : List Row) (y : Row) (ys : List Row) → AllByRecursion P (xs ++ (y ∷ ys)) → P y
all_at P [] y ys all = all.0
all_at P (x ∷ xs) y ys all = all_at P xs y ys all.1

pairwise_push : (R : Row → Row → Type 0) (xs : List Row) (y : Row) → Pairwise R xs → AllByRecursion (λ x. R x y) xs → Pairwise R (xs ++ (y ∷ []))
pairwise_push R [] y pairs all = (tt, tt)
pairwise_push R (x ∷ xs) y pairs all = (All-push (R x) xs y pairs.0 all.0, pairwise_push R xs y pairs.1 all.1)

pairwise_at : (R : Row → Row → Type 0) (xs : List Row) (y : Row) (ys : List Row) → Pairwise R (xs ++ (y ∷ ys)) → AllByRecursion (λ x. R x y) xs
pairwise_at R [] y ys pairs = tt
pairwise_at R (x ∷ xs) y ys pairs = (all_at (R x) xs y ys pairs.0, pairwise_at R xs y ys pairs.1)

rising_at : (xs : List Row) (y : Row) (ys : List Row) → rising (xs ++ (y ∷ ys)) ≡ (rising xs && (follows xs y && rising_after y ys))
rising_at [] y ys = refl
rising_at (a ∷ []) y ys = refl
rising_at (a ∷ b ∷ xs) y ys = let behind = rising_at (b ∷ xs) y ys in grind (arith, nat_tests)

-- ---- the tests 11 to 15

-- what a row passes after these
Passes : List Row → Row → Type 0
Passes rows row = WellFormed row × (follows rows row ≡ true) × (is_taken row (places_of rows) ≡ false)

-- what rows have passed
record Passed (rows : List Row) : Type 0 where
  well_formed : AllByRecursion WellFormed rows
  rises : rising rows ≡ true
  no_counter_twice : Pairwise NoCounterTwice rows

passes : (rows : List Row) (row : Row) → row_fault rows row ≡ None → Passes rows row
unfolding Passes
passes rows row free = grind (arith, nat_tests)

faultless : (rows : List Row) (row : Row) → Passes rows row → row_fault rows row ≡ None
unfolding Passes
faultless rows row h = grind (arith, nat_tests)

passed_push : (rows : List Row) (row : Row) → Passed rows → Passes rows row → Passed (rows ++ (row ∷ []))
unfolding Passes
passed_push rows row so_far here =
    record {
      well_formed = All-push WellFormed rows row so_far.well_formed here.0;
      rises = let split = rising_at rows row [] in grind (arith, nat_tests);
      no_counter_twice = pairwise_push NoCounterTwice rows row so_far.no_counter_twice (twice_from_taken rows row here.2);
    }

passed_at : (rows : List Row) (row : Row) (rest : List Row) → Passed (rows ++ (row ∷ rest)) → Passes rows row
unfolding Passes
passed_at rows row rest all =
    let order = (and_parts (rising rows) (follows rows row && rising_after row rest) (sym (rising_at rows row rest) ∙ all.rises)).1 in
    (all_at WellFormed rows row rest all.well_formed, (and_parts (follows rows row) (rising_after row rest) order).0, taken_from_twice rows row (pairwise_at NoCounterTwice rows row rest all.no_counter_twice))

neither_fault : (here : Option TableFault) (place : ℕ) (behind : Option (FaultAt TableFault)) → option_or (located here place) behind ≡ None → (here ≡ None) × (behind ≡ None)
neither_fault here place behind free = grind (arith, nat_tests)

passed_all : (earlier rest : List Row) → first_fault earlier rest ≡ None → Passed earlier → Passed (earlier ++ rest)
passed_all earlier [] free so_far = rw append-nil so_far
passed_all earlier (row ∷ rest) free so_far =
    let parts = neither_fault (row_fault earlier row) (length earlier) (first_fault (earlier ++ (row ∷ [])) rest) free in
    rw append_assoc at (passed_all (earlier ++ (row ∷ [])) rest parts.1 (passed_push earlier row so_far (passes earlier row parts.0)))

none_at_fault : (earlier rest : List Row) → Passed (earlier ++ rest) → first_fault earlier rest ≡ None
none_at_fault earlier [] all = refl
none_at_fault earlier (row ∷ rest) all =
    let here = faultless earlier row (passed_at earlier row rest all) in
    let behind = none_at_fault (earlier ++ (row ∷ [])) rest (rw append_assoc all) in
    grind (arith, nat_tests)

-- ---- the test 16

-- the other half of each half is in p
Partnered : List Row → (ℕ → Places) → Type 0
Partnered rows p =
    (k : ℕ) → (is_some (places_of rows k).high ≡ true → is_some (p k).low ≡ true) × (is_some (places_of rows k).low ≡ true → is_some (p k).high ≡ true)

partnered : (p : ℕ → Places) (place : ℕ) (rows : List Row) → first_partnerless p place rows ≡ None → Partnered rows p
unfolding Partnered
partnered p place [] free k = grind (arith, nat_tests)
partnered p place (row ∷ rest) free k =
    let behind = partnered p (place + 1) rest (grind (arith, nat_tests)) k in
    grind (arith, nat_tests)

none_partnerless : (p : ℕ → Places) (place : ℕ) (rows : List Row) → Partnered rows p → first_partnerless p place rows ≡ None
unfolding Partnered
none_partnerless p place [] all = refl
none_partnerless p place (row ∷ rest) all =
    let behind = none_partnerless p (place + 1) rest (λ k. let here = all k in grind (arith, nat_tests)) in
    grind (arith, nat_tests, all)

-- ---- all tests

passing_parts : (rows : List Row) → fault_of rows ≡ None → (first_fault [] rows ≡ None) × (first_partnerless (places_of rows) 0 rows ≡ None)
unfolding fault_of
passing_parts rows free = grind (arith, nat_tests)

nothing_passed : Passed []
nothing_passed = record { well_formed = tt; rises = refl; no_counter_twice = tt }

pub fits_from_well_formed : (rows : List Row) → AllByRecursion WellFormed rows → AllByRecursion (λ row. span_fits row ≡ true) rows
fits_from_well_formed = All-weaker WellFormed (λ row. span_fits row ≡ true) (λ row h. h.1)

pub passing_forms : (rows : List Row) → fault_of rows ≡ None → FormsLayout rows × (rising rows ≡ true)
unfolding Partnered
passing_forms rows free =
    let parts = passing_parts rows free in
    let passed = passed_all [] rows parts.0 nothing_passed in
    let paired = partnered (places_of rows) 0 rows parts.1 in (
      record {
        well_formed = passed.well_formed;
        no_bit_shared = rising_apart rows (fits_from_well_formed rows passed.well_formed) passed.rises;
        no_counter_twice = passed.no_counter_twice;
        halves_paired = λ k. let here = paired k in grind (arith, nat_tests);
      },
      passed.rises,
    )

forms_pass : (rows : List Row) → length rows ≤ 64 → FormsLayout rows → rising rows ≡ true → fault_of rows ≡ None
unfolding Partnered fault_of
forms_pass rows short forms rises =
    let first = none_at_fault [] rows (record { well_formed = forms.well_formed; rises = rises; no_counter_twice = forms.no_counter_twice }) in
    let second = none_partnerless (places_of rows) 0 rows (λ k. let here = forms.halves_paired k in grind (arith, nat_tests)) in
    grind (arith, nat_tests)

pub passes_exactly : (rows : List Row) → length rows ≤ 64
    → (fault_of rows ≡ None → FormsLayout rows × (rising rows ≡ true)) × (FormsLayout rows → rising rows ≡ true → fault_of rows ≡ None)
passes_exactly rows short = (passing_forms rows, forms_pass rows short)

pub passing_well_formed : (rows : List Row) → fault_of rows ≡ None → AllByRecursion WellFormed rows
passing_well_formed rows free = (passing_forms rows free).0.well_formed
