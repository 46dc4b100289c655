-- The rows of a table after a walk over the slice that its vector lends.
use Rattle.std.proofs.Common.{◌≡◌, List, [], ◌∷◌, map, length, vec_items, Vec, refl, ap, ap₂, ◌∙◌, arith}
use Rattle.std.proofs.lemmas.List.{length-map, with_items_is}
use Rattle.std.specs.List.{AllZip}
use Rattle.std.specs.Vec.{with_items}
use Rattle.std.specs.declared.alloc.Global.{Global}
use Rattle.table_mmd.specs.declared.entry.Entry.{Entry}

-- what a closure that answers f leaves of each
pub each_by : {X : Type 0} (f : X → X) (R : X → X → Type 0) (xs ys : List X) → ((x y : X) → R x y → y ≡ f x) → AllZip R xs ys → ys ≡ map f xs
each_by f R [] [] answers each = refl
each_by f R [] (y ∷ ys) answers each = elim each [ ]
each_by f R (x ∷ xs) [] answers each = elim each [ ]
each_by f R (x ∷ xs) (y ∷ ys) answers each = ap₂ (λ z zs. z ∷ zs) (answers x y each.0) (each_by f R xs ys answers each.1)

pub walked : (v : Vec Entry Global) (f : Entry → Entry) (lent back : List Entry) → lent ≡ vec_items v → back ≡ map f lent → vec_items (with_items v back) ≡ map f (vec_items v)
walked v f lent back given changed =
    let long : length back ≡ length (vec_items v) = ap length changed ∙ length-map lent f ∙ ap length given in
    with_items_is v back (omega (arith, v.ok.0)) ∙ changed ∙ ap (map f) given

-- and after one whose closure answers what f says
pub walked_by : (v : Vec Entry Global) (f : Entry → Entry) (R : Entry → Entry → Type 0) (lent back : List Entry) → ((x y : Entry) → R x y → y ≡ f x)
    → lent ≡ vec_items v → AllZip R lent back → vec_items (with_items v back) ≡ map f (vec_items v)
walked_by v f R lent back answers given each = walked v f lent back given (each_by f R lent back answers each)
