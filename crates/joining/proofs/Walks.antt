-- A walk over a slice that changes each element: one step, and the end.
use Rattle.std.proofs.Common.{◌≡◌, ℕ, ◌+◌, ◌<◌, ◌≤◌, List, ◌++◌, map, length, get_or, take, drop, set, ap, ◌∙◌, ap₂, append-nil}
use Rattle.std.proofs.lemmas.List.Edits.{map_over_more}
use Rattle.std.proofs.lemmas.List.{drop_all, get_or_default, take_all}

module _ {X : Type 0} (f : X → X) (xs ys : List X) (i : ℕ) (so_far : ys ≡ map f (take i xs) ++ drop i xs) where
  pub walk_more : (d y : X) → i < length xs → i < length ys → y ≡ f (get_or ys i d) → set ys i y ≡ map f (take (i + 1) xs) ++ drop (i + 1) xs
  walk_more d y within there changed =
      ap (set ys i) changed ∙ map_over_more f xs ys i (get_or ys i d) within so_far (get_or_default ys i d (get_or ys i d) there)

  pub walk_all : length xs ≤ i → ys ≡ map f xs
  walk_all past =
      so_far ∙ ap₂ (λ front back. map f front ++ back) (take_all i xs past) (drop_all i xs past) ∙ append-nil (map f xs)
