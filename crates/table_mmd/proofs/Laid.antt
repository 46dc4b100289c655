-- Each call leaves what a table keeps.
use Rattle.std.specs.Prelude.{◌≡◌, ℕ, zero, suc, ◌<◌, Bool, true, ◌&&◌, List, [], ◌∷◌, map, length, get_or, slice_index_or, slice_set, refl}
use Rattle.std.proofs.Common.{sym, ap, ap₂, subst, ◌∙◌, length-set}
use Rattle.std.proofs.Math.Bool.{Bool-set}
use Rattle.std.proofs.Math.Logic.{∥∥₁_elim}
use Rattle.std.proofs.Math.Nat.{ℕ_set}
use Rattle.std.specs.List.{AllByRecursion}
use Rattle.std.proofs.lemmas.List.{length-map}
use Rattle.std.proofs.lemmas.Bool.{and_from, and_parts}
use Rattle.bits.specs.Bits.{SetsBit}
use Rattle.mmd.proofs.Kept.{read_keeps, write_keeps, line_keeps, count_keeps, finish_keeps, reset_keeps}
use Rattle.mmd.specs.Invariant.{Keeps}
use Rattle.mmd.specs.Meaning.{Meaning}
use Rattle.table_mmd.specs.Changes.{relatch, write_row, move_line, finish_bit, reset_row}
use Rattle.table_mmd.specs.Entries.{rows_of}
use Rattle.rows.specs.Layouts.{Apart, Pairwise}
use Rattle.rows.specs.Rows.{span_fits}
use Rattle.table_mmd.specs.Counts.{all_narrow, slot_read, slot_counted, slot_reset}
use Rattle.rows.specs.Slots.{empty_slot, narrow_short}
use Rattle.rows.specs.Orders.{rising}
use Rattle.table_mmd.specs.Tables.{Laid, table_meaning}
use Rattle.table_mmd.specs.declared.entry.Entry.{Entry}
use Rattle.rows.specs.declared.slot.CounterSlot.{CounterSlot}
use Rattle.table_mmd.proofs.After.{read_means, write_means, line_means, count_means, finish_means, reset_means}
use Rattle.rows.proofs.Disjoint.{rising_apart}
use Rattle.table_mmd.proofs.Places.{relatch_acts, write_acts, line_acts, finish_acts, reset_acts}
use Rattle.table_mmd.proofs.Stored.{rows_stay}

-- ---- what comes out of the invariant

rows_fit : (es : List Entry) → AllByRecursion (λ row. span_fits row ≡ true) (rows_of es)
rows_fit [] = tt
rows_fit (e ∷ es) = (e.row.right_span, rows_fit es)

module _ {es : List Entry} {lines : ℕ} {slots : List CounterSlot} (laid : ∥ Laid es lines slots ∥₁) where
  pub narrow_of : all_narrow slots ≡ true
  narrow_of = ∥∥₁_elim laid (Bool-set _ _) (λ l. l.narrow)

  pub rises_of : rising (rows_of es) ≡ true
  rises_of = ∥∥₁_elim laid (Bool-set _ _) (λ l. l.rises)

  pub slots_of : length slots ≡ 16
  slots_of = ∥∥₁_elim laid (ℕ_set _ _) (λ l. l.sixteen_slots)

  -- no two of its rows share a bit
  pub apart_of : Pairwise Apart (rows_of es)
  apart_of = rising_apart (rows_of es) (rows_fit es) rises_of

pub narrow_at : (slots : List CounterSlot) (k : ℕ) → all_narrow slots ≡ true → narrow_short (get_or slots k empty_slot).places.short ≡ true
narrow_at [] k narrow = refl
narrow_at (s ∷ ss) zero narrow = (and_parts _ _ narrow).0
narrow_at (s ∷ ss) (suc k) narrow = narrow_at ss k (and_parts _ _ narrow).1

-- the invariant of the rows and counters that equal these
pub laid_as : (lines : ℕ) {es es' : List Entry} {slots slots' : List CounterSlot} → es' ≡ es → slots' ≡ slots → ∥ Laid es lines slots ∥₁ → ∥ Laid es' lines slots' ∥₁
laid_as lines {es} {es'} {slots} {slots'} rows counters laid =
    subst (λ l. ∥ Laid l lines slots' ∥₁) (sym rows) (subst (λ l. ∥ Laid es lines l ∥₁) (sym counters) laid)

-- ---- what each call leaves

narrow_map : (f : CounterSlot → CounterSlot) → ((s : CounterSlot) → (f s).places ≡ s.places) → (slots : List CounterSlot) → all_narrow (map f slots) ≡ all_narrow slots
narrow_map f same [] = refl
narrow_map f same (s ∷ ss) = ap₂ (λ p rest. narrow_short p.short && rest) (same s) (narrow_map f same ss)

narrow_set : (slots : List CounterSlot) (k : ℕ) (s : CounterSlot) → s.places ≡ (get_or slots k empty_slot).places → all_narrow slots ≡ true → all_narrow (slice_set slots k s) ≡ true
narrow_set [] k s same narrow = refl
narrow_set (x ∷ xs) zero s same narrow = ap (λ p. narrow_short p.short && all_narrow xs) same ∙ narrow
narrow_set (x ∷ xs) (suc k) s same narrow =
    let parts = and_parts _ _ narrow in and_from _ _ parts.0 (narrow_set xs k s same parts.1)

-- the same rows, and counters where they were
kept_so : (es es' : List Entry) (lines lines' : ℕ) (slots slots' : List CounterSlot) (m : Meaning) → rows_of es' ≡ rows_of es → all_narrow slots' ≡ true → length slots' ≡ length slots
    → table_meaning es' lines' slots' ≡ m → Keeps m → Laid es lines slots → Laid es' lines' slots'
kept_so es es' lines lines' slots slots' m rows narrow long means keeps laid =
    record {
      rises = ap rising rows ∙ laid.rises;
      narrow = narrow;
      sixteen_slots = long ∙ laid.sixteen_slots;
      keeps = subst Keeps (sym means) keeps;
    }

module _ (es : List Entry) (lines : ℕ) (slots : List CounterSlot) (laid : Laid es lines slots) where
  pub read_laid : (r : ℕ) → Laid (map (relatch lines r) es) lines (map (slot_read r) slots)
  read_laid r =
      kept_so es _ lines lines slots _ _ (rows_stay (relatch lines r) (relatch_acts lines r).same_row es)
      (narrow_map (slot_read r) (λ s. refl) slots ∙ laid.narrow) (length-map slots (slot_read r)) (read_means es lines slots r) (read_keeps _ laid.keeps r) laid

  pub write_laid : (r word : ℕ) → Laid (map (write_row r word) es) lines slots
  write_laid r word =
      kept_so es _ lines lines slots slots _ (rows_stay (write_row r word) (write_acts r word).same_row es)
      laid.narrow refl (write_means es lines slots r word) (write_keeps _ laid.keeps r word) laid

  pub line_laid : (n : ℕ) (up : Bool) (lines' : ℕ) → n < 32 → SetsBit lines n up lines' → Laid (map (move_line n up) es) lines' slots
  line_laid n up lines' small sets =
      kept_so es _ lines lines' slots slots _ (rows_stay (move_line n up) (line_acts n up).same_row es)
      laid.narrow refl (line_means es lines slots n up lines' small sets) (line_keeps _ laid.keeps n up) laid

  pub count_laid : (k amount : ℕ) → k < length slots → Laid es lines (slice_set slots k (slot_counted amount (slice_index_or slots k empty_slot)))
  count_laid k amount within =
      kept_so es es lines lines slots _ _ refl (narrow_set slots k _ refl laid.narrow) (length-set slots k _)
      (count_means es lines slots k amount within) (count_keeps _ laid.keeps k amount) laid

  pub finish_laid : (r b : ℕ) → Laid (map (finish_bit r b) es) lines slots
  finish_laid r b =
      kept_so es _ lines lines slots slots _ (rows_stay (finish_bit r b) (finish_acts r b).same_row es)
      laid.narrow refl (finish_means es lines slots r b) (finish_keeps _ laid.keeps r b) laid

  pub reset_laid : Laid (map (reset_row lines) es) lines (map slot_reset slots)
  reset_laid =
      kept_so es _ lines lines slots _ _ (rows_stay (reset_row lines) (reset_acts lines).same_row es)
      (narrow_map slot_reset (λ s. refl) slots ∙ laid.narrow) (length-map slots slot_reset) (reset_means es lines slots) (reset_keeps _ laid.keeps) laid
