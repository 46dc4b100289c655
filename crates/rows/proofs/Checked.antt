-- The check of rows, step by step: the places of their counters, the first fault and the halves.
use Rattle.std.proofs.Common.{◌≡◌, ℕ, suc, ◌+◌, ◌-◌, ◌<◌, ◌≤◌, true, false, ltb, List, [], ◌∷◌, ◌++◌, length, get_or, take, drop, Some, None, Option, sym, refl, ap, ◌∙◌, arith}
use Rattle.std.specs.Option.{option_or}
use Rattle.std.specs.List.{position, position_from}
use Rattle.std.proofs.lemmas.Iterator.Adapters.{position_from-zero}
use Rattle.std.proofs.lemmas.Bool.Decides.{nat_tests}
use Rattle.std.proofs.lemmas.List.{drop_more, length-take-le, take_more}
use Rattle.rows.specs.Checks.{fault_of, first_fault, first_partnerless, follows, is_partnerless, joined, located, place_in, places_in, places_of, row_fault, with_place, Joins, SlotsOf}
use Rattle.rows.specs.Slots.{nowhere}
use Rattle.rows.specs.Orders.{in_order}
use Rattle.fault_at.specs.declared.FaultAt.{FaultAt}
use Rattle.rows.specs.declared.fault.TableFault.{TableFault}
use Rattle.rows.specs.declared.fault.TableFault.TheVariants.{TooManyRows, Partner}
use Rattle.rows.specs.declared.row.Row.{Row}
use Rattle.rows.specs.declared.slot.Places.{Places}
use Rattle.rows.specs.declared.slot.ShortPlace.{ShortPlace}
use Rattle.rows.specs.declared.slot.CounterSlot.{CounterSlot}

-- ---- the order of rows

pub follows_last : (rows : List Row) (row d : Row) → 0 < length rows → follows rows row ≡ in_order (get_or rows (length rows - 1) d) row
follows_last [] row d some = absurd (omega arith)
follows_last (a ∷ []) row d some = refl
follows_last (a ∷ b ∷ rest) row d some =
    let one_more : suc (length (b ∷ rest) - 1) ≡ length (a ∷ b ∷ rest) - 1 = omega arith in
    follows_last (b ∷ rest) row d (omega arith) ∙ ap (λ n. in_order (get_or (a ∷ b ∷ rest) n d) row) one_more

pub follows_none : (rows : List Row) (row : Row) → length rows ≤ 0 → follows rows row ≡ true
follows_none [] row none = refl
follows_none (a ∷ rest) row none = absurd (omega arith)

-- ---- the places of counters

or_none : {X : Type 0} (x : Option X) → option_or x None ≡ x
or_none None = refl
or_none (Some v) = refl

or_assoc : {X : Type 0} (x y z : Option X) → option_or (option_or x y) z ≡ option_or x (option_or y z)
or_assoc None y z = refl
or_assoc (Some v) y z = refl

same_places : {s s' : Option ShortPlace} {h h' l l' : Option ℕ} → s ≡ s' → h ≡ h' → l ≡ l'
    → ◌≡◌ {A = Places} (record { short = s; high = h; low = l }) (record { short = s'; high = h'; low = l' })
same_places e f g = cc

joined_nowhere : (p : Places) → joined p nowhere ≡ p
joined_nowhere p = same_places (or_none p.short) (or_none p.high) (or_none p.low)

joined_assoc : (p q r : Places) → joined (joined p q) r ≡ joined p (joined q r)
joined_assoc p q r =
    same_places (or_assoc p.short q.short r.short) (or_assoc p.high q.high r.high) (or_assoc p.low q.low r.low)

pub places_push : (rows : List Row) (row : Row) (k : ℕ) → places_of (rows ++ (row ∷ [])) k ≡ joined (places_of rows k) (place_in row k)
places_push [] row k = joined_nowhere (place_in row k)
places_push (a ∷ rows) row k =
    ap (joined (place_in a k)) (places_push rows row k) ∙ sym (joined_assoc (place_in a k) (places_of rows k) (place_in row k))

-- slots that hold the places of rows
pub places_at : (rows : List Row) (slots : List CounterSlot) → SlotsOf rows slots → places_in slots ≡ places_of rows
places_at rows slots holds = λ i k. (holds.1 k i).places

-- ---- the walks

-- the first fault from a place on, by what the row there is at fault for
pub first_fault_at : (rows : List Row) (i : ℕ) (d : Row) (f : Option TableFault) → i < length rows → f ≡ row_fault (take i rows) (get_or rows i d)
    → first_fault (take i rows) (drop i rows) ≡ option_or (located f i) (first_fault (take (i + 1) rows) (drop (i + 1) rows))
first_fault_at rows i d f within found =
    let here = ap (first_fault (take i rows)) (drop_more rows i d within) in
    let place = length-take-le i rows (omega arith) in
    let next = take_more rows i d within in
    cc

-- and the first half alone, by its place
abbrev pub alone_at : Option ℕ → Option (FaultAt TableFault)
alone_at None = None
alone_at (Some place) = Some (record { fault = Partner; place = place })

alone_from : (p : ℕ → Places) (place : ℕ) (rows : List Row) → first_partnerless p place rows ≡ alone_at (position_from (λ row. is_partnerless row p) place rows)
alone_from p place [] = refl
alone_from p place (row ∷ rest) = let behind = alone_from p (place + 1) rest in grind (arith, nat_tests)

-- the slots of one row more
pub slots_more : (rows : List Row) (i : ℕ) (d : Row) (before after : List CounterSlot) → i < length rows → SlotsOf (take i rows) before → Joins (get_or rows i d) before after
    → SlotsOf (take (i + 1) rows) after
slots_more rows i d before after within holds joins = (
  joins.0 ∙ holds.0,
  λ k. joins.1 k ∙ ap (λ s. with_place s (place_in (get_or rows i d) k)) (holds.1 k)
      ∙ ap (λ p. record { places = p; counter = record { value = 0; held = 0 } }) (sym (places_push (take i rows) (get_or rows i d) k) ∙ ap (λ l. places_of l k) (sym (take_more rows i d within))),
)

-- ---- the whole check

pub fault_too_many : (rows : List Row) → true ≡ ltb 64 (length rows) → fault_of rows ≡ Some (record { fault = TooManyRows; place = 64 })
unfolding fault_of
fault_too_many rows many = cc

pub fault_of_rows : (rows : List Row) (f : FaultAt TableFault) → false ≡ ltb 64 (length rows) → first_fault [] rows ≡ Some f → fault_of rows ≡ Some f
unfolding fault_of
fault_of_rows rows f few found = cc

-- what the search for a half alone finds by the slots of rows that all pass
pub fault_by_slots : (rows : List Row) (slots : List CounterSlot) (place : Option ℕ) → false ≡ ltb 64 (length rows) → (first_fault [] rows ≡ None) × SlotsOf rows slots
    → place ≡ position (λ row. is_partnerless row (places_in slots)) rows → fault_of rows ≡ alone_at place
unfolding fault_of
fault_by_slots rows slots place few placed found =
    let same = ap (λ p. first_partnerless p 0 rows) (places_at rows slots placed.1) in
    let alone = alone_from (places_in slots) 0 rows in
    let search = position_from-zero (λ row. is_partnerless row (places_in slots)) rows in
    cc
