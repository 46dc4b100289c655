-- A row with its state: what it stores and shows in its span, place by place from its lowest bit.
use Rattle.std.specs.Prelude.{◌≡◌, ℕ, ◌+◌, ◌-◌, ◌<◌, Bool, false, ◌&&◌, ◌||◌, List, [], ◌∷◌, map, slice_index_or}
use Rattle.bits.specs.Bits.{bit}
use Rattle.rows.specs.Rows.{covers}
use Rattle.rows.specs.Slots.{empty_slot}
use Rattle.table_mmd.specs.declared.entry.Entry.{Entry}
use Rattle.rows.specs.declared.row.Row.{Row}
use Rattle.rows.specs.declared.row.Content.{Content}
use Rattle.rows.specs.declared.row.Content.TheVariants.{Fixed, Follower, LatchingHigh, LatchingLow, Setting, SelfClearing, ShortCounter, HighHalf, LowHalf}
use Rattle.rows.specs.declared.slot.CounterSlot.{CounterSlot}

-- latches, settings and self-clearing bits store their state
abbrev pub stored_at : Content → ℕ → ℕ → Bool
stored_at (Fixed v) s p = false
stored_at (Follower l) s p = false
stored_at (LatchingHigh l) s p = bit s p
stored_at (LatchingLow l) s p = bit s p
stored_at (Setting d) s p = bit s p
stored_at SelfClearing s p = bit s p
stored_at (ShortCounter k) s p = false
stored_at (HighHalf k) s p = false
stored_at (LowHalf k) s p = false

-- what is shown at a place, under these lines and counters
abbrev pub shown_at : ℕ → List CounterSlot → Content → ℕ → ℕ → Bool
shown_at lines slots (Fixed v) s p = bit v p
shown_at lines slots (Follower l) s p = bit lines l
shown_at lines slots (LatchingHigh l) s p = bit s p
shown_at lines slots (LatchingLow l) s p = bit s p
shown_at lines slots (Setting d) s p = bit s p
shown_at lines slots SelfClearing s p = bit s p
shown_at lines slots (ShortCounter k) s p = bit (slice_index_or slots k empty_slot).counter.value p
shown_at lines slots (HighHalf k) s p = bit (slice_index_or slots k empty_slot).counter.value (16 + p)
shown_at lines slots (LowHalf k) s p = bit (slice_index_or slots k empty_slot).counter.held p

-- r has these bits at places 0 to 15
abbrev pub ShowsValue : (ℕ → Bool) → ℕ → Type 0
ShowsValue f r = (p : ℕ) → p < 16 → bit r p ≡ f p

-- whether a row shows a one at a register and bit
abbrev pub row_shows : ℕ → List CounterSlot → ℕ → Entry → ℕ → Bool
row_shows lines slots r e b =
    covers e.row.listed r b && shown_at lines slots e.row.content e.state (b - e.row.listed.low)

-- whether any row does
abbrev pub any_shows : ℕ → List CounterSlot → ℕ → List Entry → ℕ → Bool
any_shows lines slots r [] b = false
any_shows lines slots r (e ∷ es) b = row_shows lines slots r e b || any_shows lines slots r es b

-- w has these bits, and no others
abbrev pub HasBits : (ℕ → Bool) → ℕ → Type 0
HasBits f w = (b : ℕ) → bit w b ≡ f b

abbrev pub rows_of : List Entry → List Row
rows_of es = map (λ e. e.row.listed) es
