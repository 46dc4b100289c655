-- Lists by their places.
use Rattle.std.proofs.Common.{◌≡◌, ℕ, zero, suc, ◌<◌, List, [], ◌∷◌, map, length, set, Some, None, Option, refl, ap, arith}
use Rattle.std.specs.List.{slice_get}
use Rattle.std.specs.Option.{option_map}

module _ {X : Type 0} where
  pub nth_set_same : (xs : List X) (i : ℕ) (x y : X) → slice_get xs i ≡ Some x → slice_get (set xs i y) i ≡ Some y
  nth_set_same [] i x y here = let z : None ≡ Some x = here in let q : ◌≡◌ {A = Option X} None (Some y) = cc in q
  nth_set_same (z ∷ xs) zero x y here = refl
  nth_set_same (z ∷ xs) (suc i) x y here = nth_set_same xs i x y here

  pub nth_set_other : (xs : List X) (i j : ℕ) (y : X) → (i ≡ j → ⊥) → slice_get (set xs i y) j ≡ slice_get xs j
  nth_set_other [] i j y apart = refl
  nth_set_other (z ∷ xs) zero zero y apart = absurd (apart refl)
  nth_set_other (z ∷ xs) zero (suc j) y apart = refl
  nth_set_other (z ∷ xs) (suc i) zero y apart = refl
  nth_set_other (z ∷ xs) (suc i) (suc j) y apart = nth_set_other xs i j y (λ e. apart (ap suc e))

  pub nth_within : (xs : List X) (i : ℕ) (x : X) → slice_get xs i ≡ Some x → i < length xs
  nth_within [] i x here = let z : ◌≡◌ {A = ℕ} 0 1 = cc in omega arith
  nth_within (y ∷ xs) zero x here = omega arith
  nth_within (y ∷ xs) (suc i) x here = let h = nth_within xs i x here in omega arith

module _ {X Y : Type 0} (f : X → Y) where
  pub nth_map : (xs : List X) (i : ℕ) → slice_get (map f xs) i ≡ option_map f (slice_get xs i)
  nth_map [] i = refl
  nth_map (x ∷ xs) zero = refl
  nth_map (x ∷ xs) (suc i) = nth_map xs i
