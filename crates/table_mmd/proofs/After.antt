-- Each call on the rows, lines and counters of a table does to its meaning what the call does to every MMD.
use Rattle.std.specs.Prelude.{◌≡◌, ℕ, ◌+◌, ◌<◌, ◌≤◌, min, Bool, true, false, cond, ◌&&◌, List, map, length, get_or, ◌==◌, nat_lt, slice_index_or, slice_set}
use Rattle.std.proofs.Math.Path.{refl, sym, ap}
use Rattle.std.proofs.Common.{◌∙◌, ⊎_elim}
use Rattle.std.proofs.lemmas.List.{get_or-set_same, get_or-set_other}
use Rattle.std.proofs.lemmas.Bool.{and_right, cases_eq, cond-true, cond-false, eq-eqb, ne_eqb, le-ltb, lt-ltb}
use Rattle.mmd.proofs.Equal.{same_meaning}
use Rattle.mmd.specs.Cells.{Cell, top}
use Rattle.mmd.specs.Meaning.{Meaning}
use Rattle.bits.specs.Bits.{bit, SetsBit}
use Rattle.mmd.specs.Events.{after_read, after_write, after_line, after_count, after_finish, after_reset}
use Rattle.table_mmd.specs.Changes.{relatch, write_row, move_line, finish_bit, reset_row}
use Rattle.table_mmd.specs.Entries.{rows_of}
use Rattle.rows.specs.Rows.{cell_of}
use Rattle.table_mmd.specs.Counts.{slot_read, slot_counted, slot_reset}
use Rattle.rows.specs.Slots.{empty_slot, field_of}
use Rattle.table_mmd.specs.Tables.{stored_of, table_meaning}
use Rattle.table_mmd.specs.declared.entry.Entry.{Entry}
use Rattle.rows.specs.declared.slot.CounterSlot.{CounterSlot}
use Rattle.table_mmd.proofs.Places.{relatch_acts, write_acts, line_acts, finish_acts, reset_acts}
use Rattle.table_mmd.proofs.Stored.{Acts, get_d_map, rows_stay, stored_after}

-- one counter of them counted
counted_at : (slots : List CounterSlot) (k amount : ℕ) → k < length slots → (j : ℕ)
    → slice_index_or (slice_set slots k (slot_counted amount (slice_index_or slots k empty_slot))) j empty_slot ≡ cond (j == k) (slot_counted amount (slice_index_or slots j empty_slot)) (slice_index_or slots j empty_slot)
counted_at slots k amount within j =
    ⊎_elim
    (λ (e : j ≡ k).
    ap (λ n. get_or (slice_set slots k (slot_counted amount (slice_index_or slots k empty_slot))) n empty_slot) e
    ∙ get_or-set_same slots k _ empty_slot within
    ∙ ap (λ n. slot_counted amount (slice_index_or slots n empty_slot)) (sym e)
    ∙ sym (cond-true (j == k) _ _ (eq-eqb j k e)))
    (λ ne. get_or-set_other slots k j _ empty_slot ne ∙ sym (cond-false (j == k) _ _ (ne_eqb j k ne)))
    (cases_eq j k)

places_stay : (amount : ℕ) (c : Bool) (s : CounterSlot) → (cond c (slot_counted amount s) s).places ≡ s.places
places_stay amount true s = refl
places_stay amount false s = refl

value_counted : (amount : ℕ) (c : Bool) (s : CounterSlot) → (cond c (slot_counted amount s) s).counter.value ≡ cond c (min (top (field_of s.places)) (s.counter.value + amount)) s.counter.value
value_counted amount true s = refl
value_counted amount false s = refl

held_stays : (amount : ℕ) (c : Bool) (s : CounterSlot) → (cond c (slot_counted amount s) s).counter.held ≡ s.counter.held
held_stays amount true s = refl
held_stays amount false s = refl

-- what the table means once its rows are changed so, place by place, and its counters so
after_change : List Entry → ℕ → List CounterSlot → (ℕ → ℕ → Cell → Bool → Bool) → (CounterSlot → CounterSlot) → Meaning
after_change es lines slots g h =
    record {
      layout = record { cell = cell_of (rows_of es); field = λ k. field_of (h (slice_index_or slots k empty_slot)).places };
      line = bit lines;
      stored = λ q b. g q b (cell_of (rows_of es) q b) (stored_of es q b);
      counter = λ k. (h (slice_index_or slots k empty_slot)).counter.value;
      held = λ k. (h (slice_index_or slots k empty_slot)).counter.held;
    }

module _ (es : List Entry) (lines : ℕ) (slots : List CounterSlot) where
  rows_changed : {f : Entry → Entry} {g : ℕ → ℕ → Cell → Bool → Bool} → Acts f g → table_meaning (map f es) lines slots ≡ after_change es lines slots g (λ s. s)
  unfolding table_meaning after_change
  rows_changed {f} acts = λ i.
      record {
        layout = record { cell = cell_of (rows_stay f acts.same_row es i); field = λ k. field_of (get_or slots k empty_slot).places };
        line = bit lines;
        stored = λ q b. stored_after acts es q b i;
        counter = λ k. (get_or slots k empty_slot).counter.value;
        held = λ k. (get_or slots k empty_slot).counter.held;
      }

  both_changed : {f : Entry → Entry} {g : ℕ → ℕ → Cell → Bool → Bool} (h : CounterSlot → CounterSlot) → Acts f g → h empty_slot ≡ empty_slot
      → table_meaning (map f es) lines (map h slots) ≡ after_change es lines slots g h
  unfolding table_meaning after_change
  both_changed {f} h acts none = λ i.
      record {
        layout = record { cell = cell_of (rows_stay f acts.same_row es i); field = λ k. field_of (get_d_map h empty_slot none slots k i).places };
        line = bit lines;
        stored = λ q b. stored_after acts es q b i;
        counter = λ k. (get_d_map h empty_slot none slots k i).counter.value;
        held = λ k. (get_d_map h empty_slot none slots k i).counter.held;
      }

  pub read_means : (r : ℕ) → table_meaning (map (relatch lines r) es) lines (map (slot_read r) slots) ≡ after_read (table_meaning es lines slots) r
  unfolding table_meaning after_read after_change
  read_means r = both_changed (slot_read r) (relatch_acts lines r) refl

  pub write_means : (r word : ℕ) → table_meaning (map (write_row r word) es) lines slots ≡ after_write (table_meaning es lines slots) r word
  unfolding table_meaning after_write after_change
  write_means r word = rows_changed (write_acts r word)

  pub finish_means : (r b : ℕ) → table_meaning (map (finish_bit r b) es) lines slots ≡ after_finish (table_meaning es lines slots) r b
  unfolding table_meaning after_finish after_change
  finish_means r b = rows_changed (finish_acts r b)

  pub reset_means : table_meaning (map (reset_row lines) es) lines (map slot_reset slots) ≡ after_reset (table_meaning es lines slots)
  unfolding table_meaning after_reset after_change
  reset_means = both_changed slot_reset (reset_acts lines) refl

  -- a line that the MMD has
  pub line_means : (n : ℕ) (up : Bool) (lines' : ℕ) → n < 32 → SetsBit lines n up lines' → table_meaning (map (move_line n up) es) lines' slots ≡ after_line (table_meaning es lines slots) n up
  unfolding table_meaning after_line
  line_means n up lines' small sets =
      same_meaning _ _ (λ i. record { cell = cell_of (rows_stay (move_line n up) (line_acts n up).same_row es i); field = λ k. field_of (get_or slots k empty_slot).places })
      sets (λ q b. stored_after (line_acts n up) es q b ∙ sym (cond-true (nat_lt n 32) _ _ (lt-ltb n 32 small))) (λ k. refl) (λ k. refl)

  -- one that it has not
  pub no_line_means : (n : ℕ) (up : Bool) → 32 ≤ n → table_meaning es lines slots ≡ after_line (table_meaning es lines slots) n up
  unfolding table_meaning after_line
  no_line_means n up large =
      same_meaning _ _ refl (λ l. sym (cond-false (l == n && nat_lt n 32) up (bit lines l) (and_right (l == n) (nat_lt n 32) (le-ltb n 32 large))))
      (λ q b. sym (cond-false (nat_lt n 32) _ _ (le-ltb n 32 large))) (λ k. refl) (λ k. refl)

  pub count_means : (k amount : ℕ) → k < length slots → table_meaning es lines (slice_set slots k (slot_counted amount (slice_index_or slots k empty_slot))) ≡ after_count (table_meaning es lines slots) k amount
  unfolding table_meaning after_count
  count_means k amount within =
      same_meaning _ _
      (λ i. record {
        cell = cell_of (rows_of es);
        field = λ j. field_of ((ap (λ s. s.places) (counted_at slots k amount within j) ∙ places_stay amount (j == k) (slice_index_or slots j empty_slot)) i);
      })
      (λ l. refl) (λ q b. refl)
      (λ j. ap (λ s. s.counter.value) (counted_at slots k amount within j) ∙ value_counted amount (j == k) (slice_index_or slots j empty_slot))
      (λ j. ap (λ s. s.counter.held) (counted_at slots k amount within j) ∙ held_stays amount (j == k) (slice_index_or slots j empty_slot))
