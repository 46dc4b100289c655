-- A table that has just been filled: nothing has happened to it, and it keeps what every table keeps.
use Rattle.std.proofs.Common.{◌≡◌, ℕ, zero, suc, true, false, List, [], ◌∷◌, map, get_or, None, sym, refl, ap, ap₂, ◌∙◌, subst}
use mathlib.Core.Path.{fun_ext}
use Rattle.std.specs.List.{AllByRecursion}
use Rattle.std.proofs.lemmas.Bool.{and_from}
use Rattle.bits.specs.Bits.{bit}
use Rattle.bits.proofs.Bits.{bit_zero}
use Rattle.mmd.specs.Meaning.{default_state, new_meaning}
use Rattle.mmd.specs.Invariant.{Keeps}
use Rattle.mmd.proofs.Kept.{new_keeps}
use Rattle.table_mmd.specs.Changes.{alike, new_entry, new_state, reset_row, reset_state}
use Rattle.rows.specs.Checks.{SlotsOf, fault_of, layout_of}
use Rattle.table_mmd.specs.Entries.{rows_of}
use Rattle.table_mmd.specs.Fills.{StartsAs}
use Rattle.rows.specs.Rows.{cell_of}
use Rattle.table_mmd.specs.Counts.{all_narrow}
use Rattle.rows.specs.Slots.{empty_slot, field_of, narrow_short}
use Rattle.rows.specs.Orders.{rising}
use Rattle.table_mmd.specs.Tables.{Laid, table_meaning}
use Rattle.table_mmd.specs.declared.entry.Entry.{Entry}
use Rattle.rows.specs.declared.row.Content.{Content}
use Rattle.rows.specs.declared.row.Content.TheVariants.{Fixed, Follower, LatchingHigh, LatchingLow, Setting, SelfClearing, ShortCounter, HighHalf, LowHalf}
use Rattle.rows.specs.declared.row.Row.{Row}
use Rattle.rows.specs.declared.slot.CounterSlot.{CounterSlot}
use Rattle.rows.proofs.Passing.{passing_narrow, passing_rises, passing_sound}
use Rattle.table_mmd.proofs.Places.{reset_acts}
use Rattle.table_mmd.proofs.Stored.{stored_after}

-- a reset while all lines are down changes nothing of a new row
all_down : (l : ℕ) → alike (bit 0 l) ≡ 0
all_down l = ap alike (bit_zero l)

starts_reset : (content : Content) → reset_state 0 content ≡ new_state content
starts_reset (Fixed v) = refl
starts_reset (Follower l) = refl
starts_reset (LatchingHigh l) = all_down l
starts_reset (LatchingLow l) = all_down l
starts_reset (Setting d) = refl
starts_reset SelfClearing = refl
starts_reset (ShortCounter k) = refl
starts_reset (HighHalf k) = refl
starts_reset (LowHalf k) = refl

reset_new : (e : Entry) → e ≡ new_entry e.row → reset_row 0 e ≡ e
reset_new e new = ap (λ s. record { row = e.row; state = s }) (starts_reset e.row.content) ∙ sym new

reset_all_new : (es : List Entry) → AllByRecursion (λ e. e ≡ new_entry e.row) es → map (reset_row 0) es ≡ es
reset_all_new [] new = refl
reset_all_new (e ∷ es) new = ap₂ (λ x xs. x ∷ xs) (reset_new e new.0) (reset_all_new es new.1)

pub new_means : (rows : List Row) (es : List Entry) (slots : List CounterSlot) → StartsAs rows es → SlotsOf rows slots → table_meaning es 0 slots ≡ new_meaning (layout_of rows)
unfolding table_meaning new_meaning layout_of
new_means rows es slots starts placed =
    ap (λ es. table_meaning es 0 slots) (sym (reset_all_new es starts.1))
    ∙ (λ i.
    record {
      layout = record {
        cell = cell_of ((ap rows_of (reset_all_new es starts.1) ∙ starts.0) i);
        field = λ k. field_of (placed.1 k i).places;
      };
      line = λ l. bit_zero l i;
      stored = λ r b. (stored_after (reset_acts 0) es r b
          ∙ ap (λ up. default_state up (cell_of (rows_of es) r b)) (fun_ext bit_zero)
          ∙ ap (λ l. default_state (λ _. false) (cell_of l r b)) starts.0) i;
      counter = λ k. (placed.1 k i).counter.value;
      held = λ k. (placed.1 k i).counter.held;
    })

narrow_from : (slots : List CounterSlot) → ((k : ℕ) → narrow_short (get_or slots k empty_slot).places.short ≡ true) → all_narrow slots ≡ true
narrow_from [] each = refl
narrow_from (s ∷ ss) each = and_from _ _ (each zero) (narrow_from ss (λ k. each (suc k)))

pub new_laid : (rows : List Row) (es : List Entry) (slots : List CounterSlot) → fault_of rows ≡ None → StartsAs rows es → SlotsOf rows slots → Laid es 0 slots
new_laid rows es slots pass starts placed =
    record {
      rises = ap rising starts.0 ∙ passing_rises rows pass;
      narrow = narrow_from slots (λ k. ap (λ s. narrow_short s.places.short) (placed.1 k) ∙ passing_narrow rows pass k);
      sixteen_slots = placed.0;
      keeps = subst Keeps (sym (new_means rows es slots starts placed)) (new_keeps (layout_of rows) (passing_sound rows pass));
    }
