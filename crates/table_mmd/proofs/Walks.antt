-- A walk over the rows that changes each: what it has left and what it finds.
use Rattle.std.proofs.Common.{◌≡◌, ℕ, ◌+◌, ◌-◌, ◌<◌, ◌||◌, false, List, [], ◌∷◌, ◌++◌, map, length, get_or, take, drop, sym, ap, ◌∙◌, ap₂, append_assoc, set, arith, length-take}
use Rattle.std.proofs.lemmas.List.{drop_more, get_or-append_right, get_or-drop, get_or_at, length-map, length-take-le, set_at, take_more}
use Rattle.std.proofs.lemmas.List.Elements.{all_zip_more, length_all_zip}
use Rattle.std.specs.List.{AllZip}
use Rattle.std.proofs.lemmas.Bool.Decides.{nat_tests}
use Rattle.std.proofs.Math.Bool.{or-false, or_assoc}
use lib.Bits.{bit_or}
use Rattle.bits.proofs.Bits.{bit_of_or}
use Rattle.table_mmd.specs.Changes.{relatch}
use Rattle.table_mmd.specs.Entries.{HasBits, any_shows, row_shows}
use Rattle.table_mmd.specs.declared.entry.Entry.{Entry}
use Rattle.rows.specs.declared.slot.CounterSlot.{CounterSlot}

-- the rows from place i on are as they were
pub not_yet_changed : {X : Type 0} (f : X → X) (xs ys : List X) (i : ℕ) (d : X) → i < length xs → ys ≡ map f (take i xs) ++ drop i xs → get_or ys i d ≡ get_or xs i d
not_yet_changed f xs ys i d within so_far =
    let front : length (map f (take i xs)) ≡ i = length-map (take i xs) f ∙ simp length-take (omega arith) in
    ap (λ l. get_or l i d) so_far ∙ get_or-append_right (map f (take i xs)) (drop i xs) i i d front (omega arith)
    ∙ get_or-drop i xs (i - i) d ∙ ap (λ n. get_or xs n d) (omega arith)

-- one row more
any_shows_push : (lines : ℕ) (slots : List CounterSlot) (r : ℕ) (es : List Entry) (e : Entry) (b : ℕ) → any_shows lines slots r (es ++ (e ∷ [])) b ≡ (any_shows lines slots r es b || row_shows lines slots r e b)
any_shows_push lines slots r [] e b = or-false (row_shows lines slots r e b)
any_shows_push lines slots r (x ∷ es) e b =
    ap (λ t. row_shows lines slots r x b || t) (any_shows_push lines slots r es e b)
    ∙ sym (or_assoc (row_shows lines slots r x b) (any_shows lines slots r es b) (row_shows lines slots r e b))

pub any_shows_more : (lines : ℕ) (slots : List CounterSlot) (r : ℕ) (es : List Entry) (i : ℕ) (d : Entry) (word more : ℕ) → i < length es
    → HasBits (any_shows lines slots r (take i es)) word → HasBits (row_shows lines slots r (get_or es i d)) more
    → HasBits (any_shows lines slots r (take (i + 1) es)) (bit_or word more)
any_shows_more lines slots r es i d word more within so_far here b =
    bit_of_or word more b ∙ ap₂ ◌||◌ (so_far b) (here b) ∙ sym (any_shows_push lines slots r (take i es) (get_or es i d) b)
    ∙ ap (λ l. any_shows lines slots r l b) (sym (take_more es i d within))

-- a row of another register shows nothing, and is left as it was
elsewhere : (lines : ℕ) (slots : List CounterSlot) (r : ℕ) (e : Entry) (b : ℕ) → (e.row.listed.register ≡ r → ⊥) → row_shows lines slots r e b ≡ false
elsewhere lines slots r e b other = grind (arith, nat_tests)

pub any_shows_past : (lines : ℕ) (slots : List CounterSlot) (r : ℕ) (es : List Entry) (i : ℕ) (d : Entry) (word : ℕ) → i < length es
    → ((get_or es i d).row.listed.register ≡ r → ⊥) → HasBits (any_shows lines slots r (take i es)) word → HasBits (any_shows lines slots r (take (i + 1) es)) word
any_shows_past lines slots r es i d word within other so_far b =
    so_far b ∙ sym (or-false (any_shows lines slots r (take i es) b))
    ∙ ap (λ t. any_shows lines slots r (take i es) b || t) (sym (elsewhere lines slots r (get_or es i d) b other))
    ∙ sym (any_shows_push lines slots r (take i es) (get_or es i d) b) ∙ ap (λ l. any_shows lines slots r l b) (sym (take_more es i d within))

pub relatch_elsewhere : (lines r : ℕ) (e : Entry) → (e.row.listed.register ≡ r → ⊥) → relatch lines r e ≡ e
relatch_elsewhere lines r e other = grind (arith, nat_tests)

-- one element more of a walk that leaves R of each
pub each_more : {X : Type 0} (R : X → X → Type 0) (xs ys front : List X) (i : ℕ) (x y : X) → i < length xs → ys ≡ front ++ drop i xs → AllZip R (take i xs) front → x ≡ get_or ys i x → R x y
    → (next : List X) × (set ys i y ≡ next ++ drop (i + 1) xs) × AllZip R (take (i + 1) xs) next
each_more R xs ys front i x y within so_far each here answered =
    let long : length front ≡ i = sym (length_all_zip R (take i xs) front each) ∙ length-take-le i xs (omega arith) in
    let parts : ys ≡ front ++ get_or xs i x ∷ drop (i + 1) xs = so_far ∙ ap (λ l. front ++ l) (drop_more xs i x within) in
    let read : x ≡ get_or xs i x = here ∙ ap (λ l. get_or l i x) parts ∙ get_or_at front _ _ x i long in (
      front ++ y ∷ [],
      ap (λ l. set l i y) parts ∙ set_at front _ _ y i long ∙ sym (append_assoc front (y ∷ []) (drop (i + 1) xs)),
      all_zip_more R xs front i x y within read each answered,
    )
