-- Two banks side by side: what is found, and what a deed does, on either side.
use Rattle.std.proofs.Common.{◌≡◌, ℕ, zero, suc, ◌+◌, ◌-◌, ◌<◌, ◌≤◌, min, Bool, true, false, if◌then◌else◌, List, [], ◌∷◌, ◌++◌, length, Some, None, Option, sym, refl, ap, ◌∙◌, ap₂, arith}
use Rattle.std.proofs.lemmas.Bool.Decides.{nat_tests}
use Rattle.bank.specs.Deeds.{after_at, done_at}
use Rattle.bank.specs.Slots.{SlotMeaning, beside, earliest, next_place, numbered}
use Rattle.bank.specs.declared.deed.Deed.{Deed}

-- ---- the earliest slot

abbrev behind : ℕ → Option ℕ → Option ℕ → Option ℕ
behind n (Some k) right = Some k
behind n None None = None
behind n None (Some k) = Some (n + k)

next_behind : (n : ℕ) (left right : Option ℕ) → next_place (behind n left right) ≡ behind (suc n) (next_place left) right
next_behind n (Some k) right = refl
next_behind n None None = refl
next_behind n None (Some k) = ap Some (omega arith)

none_behind : (right : Option ℕ) → right ≡ behind 0 None right
none_behind None = refl
none_behind (Some k) = ap Some (omega arith)

earliest_append : (test : SlotMeaning → Bool) (xs ys : List SlotMeaning) → earliest test (xs ++ ys) ≡ behind (length xs) (earliest test xs) (earliest test ys)
earliest_append test [] ys = none_behind (earliest test ys)
earliest_append test (x ∷ xs) ys =
    let ih = earliest_append test xs ys in
    let moved = next_behind (length xs) (earliest test xs) (earliest test ys) in
    elim (test x) as (λ t. if t then Some zero else next_place (earliest test (xs ++ ys)) ≡ behind (suc (length xs)) (if t then Some zero else next_place (earliest test xs)) (earliest test ys)) [ true ↦ refl | false ↦ ap next_place ih ∙ moved ]

abbrev pub Below : Option ℕ → ℕ → Type 0
Below None n = Unit {0}
Below (Some k) n = k < n

next_below : (o : Option ℕ) (n : ℕ) → Below o n → Below (next_place o) (suc n)
next_below None n h = tt
next_below (Some k) n h = omega arith

pub earliest_below : (test : SlotMeaning → Bool) (xs : List SlotMeaning) → Below (earliest test xs) (length xs)
earliest_below test [] = tt
earliest_below test (x ∷ xs) =
    let ih = next_below (earliest test xs) (length xs) (earliest_below test xs) in
    elim (test x) as (λ t. Below (if t then Some zero else next_place (earliest test xs)) (suc (length xs))) [ true ↦ omega arith | false ↦ ih ]

numbered_beside : (left right : Option ℕ) (n : ℕ) → Below left n → beside (numbered left) (min 65536 n) (numbered right) ≡ numbered (behind n left right)
numbered_beside None None n below = refl
numbered_beside None (Some k) n below = grind (arith, nat_tests)
numbered_beside (Some k) None n below = grind (arith, nat_tests)
numbered_beside (Some k) (Some j) n below = grind (arith, nat_tests)

found_beside : (test : SlotMeaning → Bool) (xs ys : List SlotMeaning)
    → beside (numbered (earliest test xs)) (min 65536 (length xs)) (numbered (earliest test ys)) ≡ numbered (earliest test (xs ++ ys))
found_beside test xs ys =
    numbered_beside (earliest test xs) (earliest test ys) (length xs) (earliest_below test xs) ∙ ap numbered (sym (earliest_append test xs ys))

-- found on the left
pub found_left : (test : SlotMeaning → Bool) (xs ys : List SlotMeaning) (n : ℕ) → numbered (earliest test xs) ≡ Some n → Some n ≡ numbered (earliest test (xs ++ ys))
found_left test xs ys n found =
    sym (ap (λ left. beside left (min 65536 (length xs)) (numbered (earliest test ys))) found) ∙ found_beside test xs ys

-- or not, and then as the right answers
pub found_right : (test : SlotMeaning → Bool) (xs ys : List SlotMeaning) (count : ℕ) (right : Option ℕ) → numbered (earliest test xs) ≡ None
    → count ≡ min 65536 (length xs) → right ≡ numbered (earliest test ys) → beside None count right ≡ numbered (earliest test (xs ++ ys))
found_right test xs ys count right missed counted found =
    ap₂ (beside None) counted found
    ∙ sym (ap (λ left. beside left (min 65536 (length xs)) (numbered (earliest test ys))) missed) ∙ found_beside test xs ys

-- ---- a deed

pub done_left : (d : Deed) (n : ℕ) (xs ys : List SlotMeaning) → n < length xs → done_at n d (xs ++ ys) ≡ done_at n d xs
done_left d n [] ys within = absurd (omega arith)
done_left d zero (x ∷ xs) ys within = refl
done_left d (suc n) (x ∷ xs) ys within = done_left d n xs ys (omega arith)

pub done_right : (d : Deed) (n : ℕ) (xs ys : List SlotMeaning) → length xs ≤ n → done_at n d (xs ++ ys) ≡ done_at (n - length xs) d ys
done_right d n [] ys past = ap (λ k. done_at k d ys) (omega arith)
done_right d zero (x ∷ xs) ys past = absurd (omega arith)
done_right d (suc n) (x ∷ xs) ys past = done_right d n xs ys (omega arith) ∙ ap (λ k. done_at k d ys) (omega arith)

pub after_left : (d : Deed) (n : ℕ) (xs ys : List SlotMeaning) → n < length xs → after_at n d (xs ++ ys) ≡ after_at n d xs ++ ys
after_left d n [] ys within = absurd (omega arith)
after_left d zero (x ∷ xs) ys within = refl
after_left d (suc n) (x ∷ xs) ys within = ap (λ rest. x ∷ rest) (after_left d n xs ys (omega arith))

pub after_right : (d : Deed) (n : ℕ) (xs ys : List SlotMeaning) → length xs ≤ n → after_at n d (xs ++ ys) ≡ xs ++ after_at (n - length xs) d ys
after_right d n [] ys past = ap (λ k. after_at k d ys) (omega arith)
after_right d zero (x ∷ xs) ys past = absurd (omega arith)
after_right d (suc n) (x ∷ xs) ys past =
    ap (λ rest. x ∷ rest) (after_right d n xs ys (omega arith) ∙ ap (λ k. xs ++ after_at k d ys) (omega arith))
