-- The check passes exactly the lists that are in order.
use Rattle.std.proofs.Common.{◌≡◌, ℕ, zero, suc, ◌<◌, ◌≤◌, true, false, ltb, List, [], ◌∷◌, ◌++◌, length, take, Some, None, Ok, Option, Result, refl, ⊎_elim, append_assoc, append-nil, arith}
use Rattle.std.specs.List.{slice_get}
use Rattle.std.proofs.lemmas.Bool.{cases_Bool, cases_order, eq-eqb}
use Rattle.std.proofs.lemmas.Bool.Decides.{nat_tests}
use Rattle.watch_list.specs.Checks.{check_behind, check_of, clashes, entry_fault, is_taken, refused_at, shares_register, well_formed, PassesExactly}
use Rattle.watch_list.specs.Entries.{address_of, is_of, names}
use Rattle.watch_list.specs.Lists.{WellFormed, WellListed}
use Rattle.watch_list.specs.declared.entry.Entry.{Entry}
use Rattle.watch_list.specs.declared.entry.Entry.TheVariants.{Latch, Count}
use Rattle.watch_list.specs.declared.fault.ListFault.{ListFault}
use Rattle.fault_at.specs.declared.FaultAt.{FaultAt}

-- ---- an entry by itself

formed_by_test : (e : Entry) → well_formed e ≡ true → WellFormed e
formed_by_test (Latch e) h = (grind (arith, nat_tests), grind (arith, nat_tests), grind (arith, nat_tests))
formed_by_test (Count e) h = (grind (arith, nat_tests), grind (arith, nat_tests), λ same. grind (arith, nat_tests))

test_by_formed : (e : Entry) → WellFormed e → well_formed e ≡ true
test_by_formed (Latch e) h = grind (arith, nat_tests)
test_by_formed (Count e) h = grind (arith, nat_tests)

-- ---- two entries

-- no register is named by both, where they are of one MMD
abbrev Apart : Entry → Entry → Type 0
Apart e f = is_of (address_of e) f ≡ true → (r : ℕ) → names r e ≡ true → names r f ≡ false

unshared : (e f : Entry) (r : ℕ) → shares_register e f ≡ false → names r e ≡ true → names r f ≡ false
unshared (Latch e) (Latch f) r none named = grind (arith, nat_tests)
unshared (Latch e) (Count f) r none named = grind (arith, nat_tests)
unshared (Count e) (Latch f) r none named = grind (arith, nat_tests)
unshared (Count e) (Count f) r none named = grind (arith, nat_tests)

shares_none : (e f : Entry) → ((r : ℕ) → names r e ≡ true → names r f ≡ false) → shares_register e f ≡ false
shares_none (Latch e) f none = none e.register (eq-eqb e.register e.register refl)
shares_none (Count e) f none =
    let high = none e.high (grind (arith, nat_tests)) in let low = none e.low (grind (arith, nat_tests)) in cc

apart_by_test : (e f : Entry) → clashes e f ≡ false → Apart e f
apart_by_test e f none same r named = unshared e f r (grind (arith, nat_tests)) named

test_by_apart : (e f : Entry) → Apart e f → clashes e f ≡ false
test_by_apart e f apart =
    ⊎_elim
    (λ (same : is_of (address_of e) f ≡ true). let none = shares_none e f (apart same) in cc)
    (λ (other : is_of (address_of e) f ≡ false). cc)
    (cases_Bool (is_of (address_of e) f))

apart_flips : (e f : Entry) → Apart f e → Apart e f
apart_flips e f apart same r named =
    let back : is_of (address_of f) e ≡ true = grind (arith, nat_tests) in
    ⊎_elim (λ (both : names r f ≡ true). let not_named = apart back r both in cc) (λ one. one) (cases_Bool (names r f))

-- ---- an entry behind the earlier ones

nothing_there : {A : Type 0} (e : Entry) → ◌≡◌ {A = Option Entry} None (Some e) → A
nothing_there e at = let clash : ◌≡◌ {A = ℕ} 0 1 = cc in absurd (omega arith)

untaken : (earlier : List Entry) (e : Entry) → is_taken earlier e ≡ false → (j : ℕ) (f : Entry) → slice_get earlier j ≡ Some f → clashes e f ≡ false
untaken [] e none j f at = nothing_there f at
untaken (x ∷ earlier) e none zero f at = let same : x ≡ f = cc in rw (← same) (grind (arith, nat_tests))
untaken (x ∷ earlier) e none (suc j) f at = untaken earlier e (grind (arith, nat_tests)) j f at

none_taken : (earlier : List Entry) (e : Entry) → ((j : ℕ) (f : Entry) → slice_get earlier j ≡ Some f → clashes e f ≡ false) → is_taken earlier e ≡ false
none_taken [] e none = refl
none_taken (x ∷ earlier) e none =
    let here = none zero x refl in let behind = none_taken earlier e (λ j f at. none (suc j) f at) in cc

fault_parts : (earlier : List Entry) (e : Entry) → entry_fault earlier e ≡ None → (well_formed e ≡ true) × (is_taken earlier e ≡ false)
fault_parts earlier e free = (grind (arith, nat_tests), grind (arith, nat_tests))

-- ---- the walk

refusal_parts : (fault : Option ListFault) (place : ℕ) (behind : Result (Unit {0}) (FaultAt ListFault)) → refused_at fault place behind ≡ Ok tt → (fault ≡ None) × (behind ≡ Ok tt)
refusal_parts None place behind passes = (refl, passes)
refusal_parts (Some f) place behind passes = let clash : ◌≡◌ {A = ℕ} 0 1 = cc in absurd (omega arith)

faultless : (earlier rest : List Entry) → check_behind earlier rest ≡ Ok tt → (i : ℕ) (e : Entry) → slice_get rest i ≡ Some e → entry_fault (earlier ++ take i rest) e ≡ None
faultless earlier [] passes i e at = nothing_there e at
faultless earlier (x ∷ rest) passes zero e at =
    let same : x ≡ e = cc in rw (append-nil, ← same) (refusal_parts (entry_fault earlier x) (length earlier) (check_behind (earlier ++ (x ∷ [])) rest) passes).0
faultless earlier (x ∷ rest) passes (suc i) e at =
    let behind = (refusal_parts (entry_fault earlier x) (length earlier) (check_behind (earlier ++ (x ∷ [])) rest) passes).1 in
    rw append_assoc at (faultless (earlier ++ (x ∷ [])) rest behind i e at)

passes_walk : (earlier rest : List Entry) → ((i : ℕ) (e : Entry) → slice_get rest i ≡ Some e → entry_fault (earlier ++ take i rest) e ≡ None) → check_behind earlier rest ≡ Ok tt
passes_walk earlier [] free = refl
passes_walk earlier (x ∷ rest) free =
    let here : entry_fault earlier x ≡ None = rw append-nil at (free zero x refl) in
    let behind = passes_walk (earlier ++ (x ∷ [])) rest (λ i e at. rw append_assoc (free (suc i) e at)) in
    cc

-- ---- places

nth_take : (entries : List Entry) (i j : ℕ) (f : Entry) → j < i → slice_get entries j ≡ Some f → slice_get (take i entries) j ≡ Some f
nth_take entries zero j f below at = absurd (omega arith)
nth_take [] (suc i) j f below at = at
nth_take (x ∷ entries) (suc i) zero f below at = at
nth_take (x ∷ entries) (suc i) (suc j) f below at = nth_take entries i j f (omega arith) at

nth_taken : (entries : List Entry) (i j : ℕ) (f : Entry) → slice_get (take i entries) j ≡ Some f → (j < i) × (slice_get entries j ≡ Some f)
nth_taken entries zero j f at = nothing_there f at
nth_taken [] (suc i) j f at = nothing_there f at
nth_taken (x ∷ entries) (suc i) zero f at = (omega arith, at)
nth_taken (x ∷ entries) (suc i) (suc j) f at = let behind = nth_taken entries i j f at in (omega arith, behind.1)

-- ---- the whole check

module _ (entries : List Entry) where
  check_parts : check_of entries ≡ Ok tt → (length entries ≤ 16) × (check_behind [] entries ≡ Ok tt)
  unfolding check_of
  check_parts passes = (grind (arith, nat_tests), grind (arith, nat_tests))

  -- every entry has passed behind the ones before it
  module _ (passes : check_of entries ≡ Ok tt) where
    tested : (i : ℕ) (e : Entry) → slice_get entries i ≡ Some e → (well_formed e ≡ true) × (is_taken (take i entries) e ≡ false)
    tested i e at = fault_parts (take i entries) e (faultless [] entries (check_parts passes).1 i e at)

    earlier_apart : (i j : ℕ) (e f : Entry) → slice_get entries i ≡ Some e → slice_get entries j ≡ Some f → j < i → Apart e f
    earlier_apart i j e f here there below =
        apart_by_test e f (untaken (take i entries) e (tested i e here).1 j f (nth_take entries i j f below there))

    pub passing_listed : WellListed entries
    passing_listed =
        record {
          few = (check_parts passes).0;
          formed = λ i e at. formed_by_test e (tested i e at).0;
          apart = λ i j e f here there distinct.
              ⊎_elim (λ (same : i ≡ j). absurd (distinct same))
              (⊎_elim
              (λ (below : i < j). apart_flips e f (earlier_apart j i f e there here below))
              (λ (above : j < i). earlier_apart i j e f here there above))
              (cases_order i j);
        }

  pub listed_passes : WellListed entries → check_of entries ≡ Ok tt
  unfolding check_of
  listed_passes listed =
      let walk = passes_walk [] entries (λ i e at.
      let formed = test_by_formed e (listed.formed i e at) in
      let free = none_taken (take i entries) e (λ j f there.
      let place = nth_taken entries i j f there in
      test_by_apart e f (listed.apart i j e f at place.1 (λ same. omega arith))) in
      cc) in
      let few : ltb 16 (length entries) ≡ false = let bound = listed.few in grind (arith, nat_tests) in
      cc

  pub passes_exactly : PassesExactly entries
  passes_exactly = (passing_listed, listed_passes)
