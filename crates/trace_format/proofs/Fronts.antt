-- A list of at least n bytes is its first n, one by one, and the rest: what a slice pattern takes apart.
use Rattle.std.proofs.Common.{◌≡◌, ℕ, zero, suc, ◌-◌, ◌≤◌, List, [], ◌∷◌, ◌++◌, length, get_or, take, drop, sym, refl, ap, ◌∙◌, arith}
use Rattle.std.proofs.lemmas.List.{take_rest}

-- the n elements from place k on
abbrev pub places : ℕ → ℕ → List ℕ → List ℕ
places zero k xs = []
places (suc n) k xs = get_or xs k 0 ∷ places n (suc k) xs

places_behind : (n k x : ℕ) (xs : List ℕ) → places n (suc k) (x ∷ xs) ≡ places n k xs
places_behind zero k x xs = refl
places_behind (suc n) k x xs = ap (λ ys. get_or xs k 0 ∷ ys) (places_behind n (suc k) x xs)

apart : (n : ℕ) (xs : List ℕ) → n ≤ length xs → xs ≡ places n 0 xs ++ drop n xs
apart zero xs h = refl
apart (suc n) [] h = absurd (omega arith)
apart (suc n) (x ∷ xs) h = ap (λ ys. x ∷ ys) (apart n xs (omega arith) ∙ ap (λ ys. ys ++ drop n xs) (sym (places_behind n 0 x xs)))

pub front : (n : ℕ) (xs : List ℕ) → n ≤ length xs → xs ≡ places n 0 xs ++ take (length xs - n) (drop n xs)
front n xs h = apart n xs h ∙ ap (λ ys. places n 0 xs ++ ys) (sym (take_rest xs n))
