-- Which tables of rows are refused: rows are tested one after another from the first, each by the rules in their order.
use Rattle.std.specs.Prelude.{◌≡◌, ℕ, ◌+◌, Bool, true, false, if◌then◌else◌, ◌&&◌, List, [], ◌∷◌, ◌++◌, length, Some, None, Ok, Err, Option, Result, ◌==◌, nat_le, nat_lt, slice_index_or}
use Rattle.std.specs.Option.{option_or}
use Rattle.mmd.specs.Meaning.{Layout}
use Rattle.rows.specs.Rows.{cell_of, content_of, if_listed, number_fits, span_fits}
use Rattle.rows.specs.Parts.{by_part, counter_named, lacks_partner, part_place, part_taken}
use Rattle.rows.specs.Slots.{empty_slot, field_of, nowhere}
use Rattle.rows.specs.Orders.{in_order}
use Rattle.fault_at.specs.declared.FaultAt.{FaultAt}
use Rattle.rows.specs.declared.fault.TableFault.{TableFault}
use Rattle.rows.specs.declared.fault.TableFault.TheVariants.{TooManyRows, Kind, Span, Number, Order, Counter, Partner}
use Rattle.rows.specs.declared.row.Content.{Content}
use Rattle.rows.specs.declared.row.Row.{Row}
use Rattle.rows.specs.declared.slot.Places.{Places}
use Rattle.rows.specs.declared.slot.CounterSlot.{CounterSlot}

-- ---- where the rows place a counter

abbrev pub place_as : Row → Content → ℕ → Places
place_as row content k = by_part nowhere (λ n part. if n == k then part_place row part else nowhere) (counter_named content)

abbrev pub place_in : Row → ℕ → Places
place_in row k = if_listed nowhere (λ content. place_as row content k) (content_of row)

abbrev pub joined : Places → Places → Places
joined p q = record { short = option_or p.short q.short; high = option_or p.high q.high; low = option_or p.low q.low }

abbrev pub places_of : List Row → ℕ → Places
places_of [] k = nowhere
places_of (row ∷ rows) k = joined (place_in row k) (places_of rows k)

-- the layout of rows
unfoldable pub layout_of : List Row → Layout
layout_of rows = record { cell = cell_of rows; field = λ k. field_of (places_of rows k) }

-- ---- the tests of a row, 11 to 15

abbrev pub kind_listed : Row → Bool
kind_listed row = nat_le 1 row.kind && nat_le row.kind 9

-- the row comes after the last of the earlier ones
abbrev pub follows : List Row → Row → Bool
follows [] row = true
follows (a ∷ []) row = in_order a row
follows (a ∷ b ∷ rest) row = follows (b ∷ rest) row

-- the counter has a field, and this is not its missing half
abbrev pub taken_as : Content → (ℕ → Places) → Bool
taken_as content p = by_part false (λ n part. part_taken (p n) part) (counter_named content)

abbrev pub is_taken : Row → (ℕ → Places) → Bool
is_taken row p = if_listed false (λ content. taken_as content p) (content_of row)

-- the first rule of its own that a row breaks
abbrev pub own_fault : Row → Option TableFault
own_fault row = if kind_listed row then (if span_fits row then (if number_fits row then None else Some Number) else Some Span) else Some Kind

-- the first rule that a row breaks after these
abbrev pub row_fault : List Row → Row → Option TableFault
row_fault earlier row =
    option_or (own_fault row) (if follows earlier row then (if is_taken row (places_of earlier) then Some Counter else None) else Some Order)

-- ---- the tests of a table

abbrev pub located : Option TableFault → ℕ → Option (FaultAt TableFault)
located None place = None
located (Some f) place = Some (record { fault = f; place = place })

-- the first row at fault, of those behind the earlier ones
abbrev pub first_fault : List Row → List Row → Option (FaultAt TableFault)
first_fault earlier [] = None
first_fault earlier (row ∷ rest) = option_or (located (row_fault earlier row) (length earlier)) (first_fault (earlier ++ (row ∷ [])) rest)

-- a half whose other half is in no row
abbrev pub partnerless_as : Content → (ℕ → Places) → Bool
partnerless_as content p = by_part false (λ n part. lacks_partner (p n) part) (counter_named content)

abbrev pub is_partnerless : Row → (ℕ → Places) → Bool
is_partnerless row p = if_listed false (λ content. partnerless_as content p) (content_of row)

abbrev pub first_partnerless : (ℕ → Places) → ℕ → List Row → Option (FaultAt TableFault)
first_partnerless p place [] = None
first_partnerless p place (row ∷ rest) =
    if is_partnerless row p then Some (record { fault = Partner; place = place }) else first_partnerless p (place + 1) rest

-- what a table is refused for: 10, then 11 to 15 row by row, then 16
unfoldable pub fault_of : List Row → Option (FaultAt TableFault)
fault_of rows =
    if nat_lt 64 (length rows) then Some (record { fault = TooManyRows; place = 64 })
    else option_or (first_fault [] rows) (first_partnerless (places_of rows) 0 rows)

-- where slots place the counters
abbrev pub places_in : List CounterSlot → ℕ → Places
places_in slots k = (slice_index_or slots k empty_slot).places

-- the counters of a table that has just been filled
abbrev pub SlotsOf : List Row → List CounterSlot → Type 0
SlotsOf rows slots = (length slots ≡ 16) × ((k : ℕ) → slice_index_or slots k empty_slot ≡ record { places = places_of rows k; counter = record { value = 0; held = 0 } })

-- the counters with the places of one row more
abbrev pub with_place : CounterSlot → Places → CounterSlot
with_place s p = record { places = joined s.places p; counter = s.counter }

abbrev pub Joins : Row → List CounterSlot → List CounterSlot → Type 0
Joins row before after =
    (length after ≡ length before) × ((k : ℕ) → slice_index_or after k empty_slot ≡ with_place (slice_index_or before k empty_slot) (place_in row k))

-- what the check of rows one after another gives, and what the whole check gives
abbrev pub Placed : List Row → Result (List CounterSlot) (FaultAt TableFault) → Type 0
Placed rows (Ok slots) = (first_fault [] rows ≡ None) × SlotsOf rows slots
Placed rows (Err f) = first_fault [] rows ≡ Some f

abbrev pub Checked : List Row → Result (List CounterSlot) (FaultAt TableFault) → Type 0
Checked rows (Ok slots) = (fault_of rows ≡ None) × SlotsOf rows slots
Checked rows (Err f) = fault_of rows ≡ Some f
