-- What each call does to an MMD. No call changes more than is said here.
use Rattle.std.specs.Prelude.{ℕ, ◌+◌, min, Bool, true, false, cond, not, ◌&&◌, ◌||◌, ◌==◌, nat_lt}
use Rattle.bits.specs.Bits.{bit}
use Rattle.mmd.specs.Cells.{Cell, blank, fixed, follower, latch, setting, self_clearing, short, high_half, low_half, Field, no_field, short_field, long_field, top, is_self_clearing}
use Rattle.mmd.specs.Meaning.{Meaning, default_state}

-- whether two bits are the same
abbrev pub same : Bool → Bool → Bool
same true b = b
same false b = not b

-- ---- read: each latch of the register equals its line; a short counter in it is cleared; a high half's counter goes
-- into the held copy and is cleared

abbrev pub relatched : (ℕ → Bool) → Bool → Cell → Bool
relatched line kept blank = kept
relatched line kept (fixed v) = kept
relatched line kept (follower l) = kept
relatched line kept (latch s l) = line l
relatched line kept (setting d) = kept
relatched line kept self_clearing = kept
relatched line kept (short k p) = kept
relatched line kept (high_half k p) = kept
relatched line kept (low_half k p) = kept

abbrev pub clears : ℕ → Field → Bool
clears r no_field = false
clears r (short_field q low w) = q == r
clears r (long_field h l) = h == r

abbrev pub holds : ℕ → Field → Bool
holds r no_field = false
holds r (short_field q low w) = false
holds r (long_field h l) = h == r

unfoldable pub after_read : Meaning → ℕ → Meaning
after_read m r =
    record {
      layout = m.layout;
      line = m.line;
      stored = λ q b. cond (q == r) (relatched m.line (m.stored q b) (m.layout.cell q b)) (m.stored q b);
      counter = λ k. cond (clears r (m.layout.field k)) 0 (m.counter k);
      held = λ k. cond (holds r (m.layout.field k)) (m.counter k) (m.held k);
    }

-- ---- write: a setting takes the written bit; a self-clearing bit becomes one where one is written

abbrev pub written : Bool → Bool → Cell → Bool
written w kept blank = kept
written w kept (fixed v) = kept
written w kept (follower l) = kept
written w kept (latch s l) = kept
written w kept (setting d) = w
written w kept self_clearing = w || kept
written w kept (short k p) = kept
written w kept (high_half k p) = kept
written w kept (low_half k p) = kept

unfoldable pub after_write : Meaning → ℕ → ℕ → Meaning
after_write m r d =
    record {
      layout = m.layout;
      line = m.line;
      stored = λ q b. cond (q == r) (written (bit d b) (m.stored q b) (m.layout.cell q b)) (m.stored q b);
      counter = m.counter;
      held = m.held;
    }

-- ---- line: sets one line, none above 31; up sets its latching-high bits to one, down its latching-low bits to zero

abbrev pub moved : ℕ → Bool → Bool → Cell → Bool
moved n up kept blank = kept
moved n up kept (fixed v) = kept
moved n up kept (follower l) = kept
moved n up kept (latch s l) = cond (l == n && same up s) s kept
moved n up kept (setting d) = kept
moved n up kept self_clearing = kept
moved n up kept (short k p) = kept
moved n up kept (high_half k p) = kept
moved n up kept (low_half k p) = kept

unfoldable pub after_line : Meaning → ℕ → Bool → Meaning
after_line m n up =
    record {
      layout = m.layout;
      line = λ l. cond (l == n && nat_lt n 32) up (m.line l);
      stored = λ q b. cond (nat_lt n 32) (moved n up (m.stored q b) (m.layout.cell q b)) (m.stored q b);
      counter = m.counter;
      held = m.held;
    }

-- ---- count: adds to one counter, which stops at its top

unfoldable pub after_count : Meaning → ℕ → ℕ → Meaning
after_count m n amount =
    record {
      layout = m.layout;
      line = m.line;
      stored = m.stored;
      counter = λ k. cond (k == n) (min (top (m.layout.field k)) (m.counter k + amount)) (m.counter k);
      held = m.held;
    }

-- ---- finish: clears one self-clearing bit

unfoldable pub after_finish : Meaning → ℕ → ℕ → Meaning
after_finish m r b =
    record {
      layout = m.layout;
      line = m.line;
      stored = λ q c. cond (q == r && c == b && is_self_clearing (m.layout.cell q c)) false (m.stored q c);
      counter = m.counter;
      held = m.held;
    }

-- ---- reset: settings take their defaults, self-clearing bits, counters and copies are cleared, each latch equals its
-- line; lines stay

unfoldable pub after_reset : Meaning → Meaning
after_reset m =
    record {
      layout = m.layout;
      line = m.line;
      stored = λ q b. default_state m.line (m.layout.cell q b);
      counter = λ _. 0;
      held = λ _. 0;
    }
