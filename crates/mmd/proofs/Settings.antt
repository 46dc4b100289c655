-- What each call does to the bits that keep no latch and count nothing.
use Rattle.std.proofs.Common.{◌≡◌, ℕ, Bool, false, cond, ◌&&◌, ◌||◌, eqb, arith}
use Rattle.std.proofs.lemmas.Bool.Decides.{nat_tests}
use Rattle.bits.specs.Bits.{bit}
use Rattle.mmd.specs.Cells.{blank, fixed, follower, setting, self_clearing}
use Rattle.mmd.specs.Events.{after_read, after_write, after_line, after_count, after_finish, after_reset}
use Rattle.mmd.specs.Meaning.{Meaning, shown}

-- ---- bits that no call changes by itself

pub blank_shows_zero : (m : Meaning) (r b : ℕ) → m.layout.cell r b ≡ blank → shown m r b ≡ false
unfolding shown
blank_shows_zero m r b here = grind (arith, nat_tests)

pub fixed_shows_value : (m : Meaning) (r b : ℕ) (v : Bool) → m.layout.cell r b ≡ fixed v → shown m r b ≡ v
unfolding shown
fixed_shows_value m r b v here = grind (arith, nat_tests)

pub follower_shows_line : (m : Meaning) (r b l : ℕ) → m.layout.cell r b ≡ follower l → shown m r b ≡ m.line l
unfolding shown
follower_shows_line m r b l here = grind (arith, nat_tests)

-- ---- a setting of default d, at register r and bit b

module _ (m : Meaning) (r b : ℕ) (d : Bool) (here : m.layout.cell r b ≡ setting d) where
  pub setting_after_read : (q : ℕ) → shown (after_read m q) r b ≡ shown m r b
  unfolding shown after_read
  setting_after_read q = grind (arith, nat_tests)

  pub setting_after_write : (q word : ℕ) → shown (after_write m q word) r b ≡ cond (eqb r q) (bit word b) (shown m r b)
  unfolding shown after_write
  setting_after_write q word = grind (arith, nat_tests)

  pub setting_after_line : (n : ℕ) (up : Bool) → shown (after_line m n up) r b ≡ shown m r b
  unfolding shown after_line
  setting_after_line n up = grind (arith, nat_tests)

  pub setting_after_count : (k amount : ℕ) → shown (after_count m k amount) r b ≡ shown m r b
  unfolding shown after_count
  setting_after_count k amount = grind (arith, nat_tests)

  pub setting_after_finish : (q c : ℕ) → shown (after_finish m q c) r b ≡ shown m r b
  unfolding shown after_finish
  setting_after_finish q c = grind (arith, nat_tests)

  pub setting_after_reset : shown (after_reset m) r b ≡ d
  unfolding shown after_reset
  setting_after_reset = grind (arith, nat_tests)

-- ---- a self-clearing bit

module _ (m : Meaning) (r b : ℕ) (here : m.layout.cell r b ≡ self_clearing) where
  pub self_clearing_after_read : (q : ℕ) → shown (after_read m q) r b ≡ shown m r b
  unfolding shown after_read
  self_clearing_after_read q = grind (arith, nat_tests)

  pub self_clearing_after_write : (q word : ℕ) → shown (after_write m q word) r b ≡ cond (eqb r q) (bit word b || shown m r b) (shown m r b)
  unfolding shown after_write
  self_clearing_after_write q word = grind (arith, nat_tests)

  pub self_clearing_after_line : (n : ℕ) (up : Bool) → shown (after_line m n up) r b ≡ shown m r b
  unfolding shown after_line
  self_clearing_after_line n up = grind (arith, nat_tests)

  pub self_clearing_after_count : (k amount : ℕ) → shown (after_count m k amount) r b ≡ shown m r b
  unfolding shown after_count
  self_clearing_after_count k amount = grind (arith, nat_tests)

  pub self_clearing_after_finish : (q c : ℕ) → shown (after_finish m q c) r b ≡ cond (eqb r q && eqb b c) false (shown m r b)
  unfolding shown after_finish
  self_clearing_after_finish q c = grind (arith, nat_tests)

  pub self_clearing_after_reset : shown (after_reset m) r b ≡ false
  unfolding shown after_reset
  self_clearing_after_reset = grind (arith, nat_tests)
