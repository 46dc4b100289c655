-- What a table of rows, lines and counters means.
use Rattle.std.specs.Prelude.{◌≡◌, ℕ, ◌-◌, Bool, true, false, if◌then◌else◌, List, [], ◌∷◌, length, slice_index_or}
use Rattle.bits.specs.Bits.{bit}
use Rattle.mmd.specs.Invariant.{Keeps}
use Rattle.mmd.specs.Meaning.{Meaning}
use Rattle.table_mmd.specs.Entries.{rows_of, stored_at}
use Rattle.rows.specs.Orders.{rising}
use Rattle.rows.specs.Rows.{cell_of, covers}
use Rattle.table_mmd.specs.Counts.{all_narrow}
use Rattle.rows.specs.Slots.{empty_slot, field_of}
use Rattle.table_mmd.specs.declared.entry.Entry.{Entry}
use Rattle.rows.specs.declared.slot.CounterSlot.{CounterSlot}

-- the state at a register and bit: that of the first row that covers it
abbrev pub stored_of : List Entry → ℕ → ℕ → Bool
stored_of [] r b = false
stored_of (e ∷ es) r b = if covers e.row.listed r b then stored_at e.row.content e.state (b - e.row.listed.low) else stored_of es r b

unfoldable pub table_meaning : List Entry → ℕ → List CounterSlot → Meaning
table_meaning es lines slots =
    record {
      layout = record { cell = cell_of (rows_of es); field = λ k. field_of (slice_index_or slots k empty_slot).places };
      line = bit lines;
      stored = stored_of es;
      counter = λ k. (slice_index_or slots k empty_slot).counter.value;
      held = λ k. (slice_index_or slots k empty_slot).counter.held;
    }

-- what a table keeps at all times
pub record Laid (es : List Entry) (lines : ℕ) (slots : List CounterSlot) : Type 0 where
  pub rises : rising (rows_of es) ≡ true
  pub narrow : all_narrow slots ≡ true
  pub sixteen_slots : length slots ≡ 16
  pub keeps : Keeps (table_meaning es lines slots)
