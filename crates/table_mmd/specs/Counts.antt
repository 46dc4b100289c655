-- What each call does to the counters of a table.
use Rattle.std.specs.Prelude.{ℕ, ◌+◌, min, Bool, true, if◌then◌else◌, ◌&&◌, List, [], ◌∷◌}
use Rattle.mmd.specs.Cells.{top}
use Rattle.mmd.specs.Events.{clears, holds}
use Rattle.mmd.specs.declared.counter.Counter.{Counter}
use Rattle.rows.specs.Slots.{field_of, narrow_short}
use Rattle.rows.specs.declared.slot.CounterSlot.{CounterSlot}

abbrev pub all_narrow : List CounterSlot → Bool
all_narrow [] = true
all_narrow (s ∷ ss) = narrow_short s.places.short && all_narrow ss

abbrev pub with_counter : CounterSlot → Counter → CounterSlot
with_counter s c = record { places = s.places; counter = c }

-- ---- read

abbrev pub slot_read : ℕ → CounterSlot → CounterSlot
slot_read r s =
    with_counter s (record {
      value = if clears r (field_of s.places) then 0 else s.counter.value;
      held = if holds r (field_of s.places) then s.counter.value else s.counter.held;
    })

-- ---- count

abbrev pub slot_counted : ℕ → CounterSlot → CounterSlot
slot_counted amount s =
    with_counter s (record { value = min (top (field_of s.places)) (s.counter.value + amount); held = s.counter.held })

-- ---- reset

abbrev pub slot_reset : CounterSlot → CounterSlot
slot_reset s = with_counter s (record { value = 0; held = 0 })
