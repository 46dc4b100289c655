-- What each call does to the state at one place of a row is what it does to the cell there.
use Rattle.std.specs.Prelude.{◌≡◌, ℕ, ◌-◌, ◌/◌, ◌^◌, ◌<◌, ◌≤◌, Bool, true, false, cond, ◌&&◌, ◌==◌, refl}
use Rattle.std.proofs.Common.{ap, ◌∙◌, arith}
use Rattle.std.proofs.lemmas.Bool.Decides.{nat_tests}
use Rattle.bits.specs.Bits.{bit}
use Rattle.bits.proofs.Bits.{bit_of_or, bit_shr, bit_sixteen, bit_zero}
use Rattle.mmd.specs.Cells.{is_self_clearing}
use Rattle.mmd.specs.Events.{relatched, written, moved}
use Rattle.mmd.specs.Meaning.{default_state}
use Rattle.table_mmd.specs.Changes.{relatch, relatched_state, write_row, written_state, move_line, moved_state, finish_bit, finished_state, reset_row, reset_state}
use Rattle.table_mmd.specs.Entries.{stored_at}
use Rattle.rows.specs.Rows.{cell_at, one_bit}
use Rattle.rows.specs.declared.row.Content.{Content}
use Rattle.rows.specs.declared.row.Content.TheVariants.{Fixed, Follower, LatchingHigh, LatchingLow, Setting, SelfClearing, ShortCounter, HighHalf, LowHalf}
use Rattle.rows.proofs.Spans.{span_within, span_one_bit}
use Rattle.table_mmd.proofs.Stored.{Acts}

-- ---- read

relatched_at : (lines : ℕ) (c : Content) (s p : ℕ) → p < 16 → stored_at c (relatched_state lines c s) p ≡ relatched (bit lines) (stored_at c s p) (cell_at c p)
relatched_at lines (Fixed v) s p h = refl
relatched_at lines (Follower l) s p h = refl
relatched_at lines (LatchingHigh l) s p h = bit_sixteen (bit lines l) p h
relatched_at lines (LatchingLow l) s p h = bit_sixteen (bit lines l) p h
relatched_at lines (Setting d) s p h = refl
relatched_at lines SelfClearing s p h = refl
relatched_at lines (ShortCounter k) s p h = refl
relatched_at lines (HighHalf k) s p h = refl
relatched_at lines (LowHalf k) s p h = refl

pub relatch_acts : (lines r : ℕ) → Acts (relatch lines r) (λ q b cell kept. cond (q == r) (relatched (bit lines) kept cell) kept)
relatch_acts lines r =
    record {
      same_row = λ e. grind (arith, nat_tests);
      at_place = λ e q b here.
          let within = span_within e.row.listed e.row.right_span in
          let small : b - e.row.listed.low < 16 = grind (arith, nat_tests) in
          let place = relatched_at lines e.row.content e.state (b - e.row.listed.low) small in
          grind (arith, nat_tests);
      none_at_blank = λ q b. grind (arith, nat_tests);
    }

-- ---- write

written_at : (w : ℕ) (c : Content) (s p : ℕ) → stored_at c (written_state w c s) p ≡ written (bit w p) (stored_at c s p) (cell_at c p)
written_at w (Fixed v) s p = refl
written_at w (Follower l) s p = refl
written_at w (LatchingHigh l) s p = refl
written_at w (LatchingLow l) s p = refl
written_at w (Setting d) s p = refl
written_at w SelfClearing s p = bit_of_or w s p
written_at w (ShortCounter k) s p = refl
written_at w (HighHalf k) s p = refl
written_at w (LowHalf k) s p = refl

pub write_acts : (r word : ℕ) → Acts (write_row r word) (λ q b cell kept. cond (q == r) (written (bit word b) kept cell) kept)
write_acts r word =
    record {
      same_row = λ e. grind (arith, nat_tests);
      at_place = λ e q b here.
          let over : e.row.listed.low ≤ b = grind (arith, nat_tests) in
          let there : bit (word / 2 ^ e.row.listed.low) (b - e.row.listed.low) ≡ bit word b = bit_shr word e.row.listed.low (b - e.row.listed.low) ∙ ap (bit word) (omega arith) in
          let place = written_at (word / 2 ^ e.row.listed.low) e.row.content e.state (b - e.row.listed.low) in
          grind (arith, nat_tests);
      none_at_blank = λ q b. grind (arith, nat_tests);
    }

-- ---- line

moved_at : (n : ℕ) (up : Bool) (c : Content) (s p : ℕ) → p < 16 → stored_at c (moved_state n up c s) p ≡ moved n up (stored_at c s p) (cell_at c p)
moved_at n up (Fixed v) s p h = refl
moved_at n up (Follower l) s p h = refl
moved_at n up (LatchingHigh l) s p h = let ones = bit_sixteen true p h in grind (arith, nat_tests)
moved_at n up (LatchingLow l) s p h = let zeros = bit_zero p in grind (arith, nat_tests)
moved_at n up (Setting d) s p h = refl
moved_at n up SelfClearing s p h = refl
moved_at n up (ShortCounter k) s p h = refl
moved_at n up (HighHalf k) s p h = refl
moved_at n up (LowHalf k) s p h = refl

pub line_acts : (n : ℕ) (up : Bool) → Acts (move_line n up) (λ q b cell kept. moved n up kept cell)
line_acts n up =
    record {
      same_row = λ e. refl;
      at_place = λ e q b here.
          let within = span_within e.row.listed e.row.right_span in
          let small : b - e.row.listed.low < 16 = grind (arith, nat_tests) in
          moved_at n up e.row.content e.state (b - e.row.listed.low) small;
      none_at_blank = λ q b. refl;
    }

-- ---- finish

finished_at : (c : Content) (s p : ℕ) → stored_at c (finished_state c s) p ≡ cond (is_self_clearing (cell_at c p)) false (stored_at c s p)
finished_at (Fixed v) s p = refl
finished_at (Follower l) s p = refl
finished_at (LatchingHigh l) s p = refl
finished_at (LatchingLow l) s p = refl
finished_at (Setting d) s p = refl
finished_at SelfClearing s p = bit_zero p
finished_at (ShortCounter k) s p = refl
finished_at (HighHalf k) s p = refl
finished_at (LowHalf k) s p = refl

-- a self-clearing cell stands in a row of one bit
self_clearing_one_bit : (c : Content) (p : ℕ) → is_self_clearing (cell_at c p) ≡ true → one_bit c ≡ true
self_clearing_one_bit (Fixed v) p h = grind (arith, nat_tests)
self_clearing_one_bit (Follower l) p h = refl
self_clearing_one_bit (LatchingHigh l) p h = refl
self_clearing_one_bit (LatchingLow l) p h = refl
self_clearing_one_bit (Setting d) p h = grind (arith, nat_tests)
self_clearing_one_bit SelfClearing p h = refl
self_clearing_one_bit (ShortCounter k) p h = grind (arith, nat_tests)
self_clearing_one_bit (HighHalf k) p h = grind (arith, nat_tests)
self_clearing_one_bit (LowHalf k) p h = grind (arith, nat_tests)

pub finish_acts : (r b : ℕ) → Acts (finish_bit r b) (λ q c cell kept. cond (q == r && c == b && is_self_clearing cell) false kept)
finish_acts r b =
    record {
      same_row = λ e. grind (arith, nat_tests);
      at_place = λ e q c here.
          let place = finished_at e.row.content e.state (c - e.row.listed.low) in
          let single : is_self_clearing (cell_at e.row.content (c - e.row.listed.low)) ≡ true → e.row.listed.low ≡ e.row.listed.high = λ clearing. span_one_bit e.row.listed e.row.content e.row.right_content e.row.right_span (self_clearing_one_bit e.row.content (c - e.row.listed.low) clearing) in
          grind (arith, nat_tests);
      none_at_blank = λ q c. grind (arith, nat_tests);
    }

-- ---- reset

reset_at : (lines : ℕ) (c : Content) (p : ℕ) → p < 16 → stored_at c (reset_state lines c) p ≡ default_state (bit lines) (cell_at c p)
reset_at lines (Fixed v) p h = refl
reset_at lines (Follower l) p h = refl
reset_at lines (LatchingHigh l) p h = bit_sixteen (bit lines l) p h
reset_at lines (LatchingLow l) p h = bit_sixteen (bit lines l) p h
reset_at lines (Setting d) p h = refl
reset_at lines SelfClearing p h = bit_zero p
reset_at lines (ShortCounter k) p h = refl
reset_at lines (HighHalf k) p h = refl
reset_at lines (LowHalf k) p h = refl

pub reset_acts : (lines : ℕ) → Acts (reset_row lines) (λ q b cell kept. default_state (bit lines) cell)
reset_acts lines =
    record {
      same_row = λ e. refl;
      at_place = λ e q b here.
          let within = span_within e.row.listed e.row.right_span in
          let small : b - e.row.listed.low < 16 = grind (arith, nat_tests) in
          reset_at lines e.row.content (b - e.row.listed.low) small;
      none_at_blank = λ q b. refl;
    }
