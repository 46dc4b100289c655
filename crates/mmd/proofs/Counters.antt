-- What each call does to a counter, and what its bits show.
use Rattle.std.proofs.Common.{◌≡◌, ℕ, ◌+◌, ◌-◌, ◌/◌, ◌%◌, ◌^◌, ◌<◌, ◌≤◌, min, Bool, cond, eqb, refl, ◌∙◌, arith}
use Rattle.std.proofs.lemmas.Bool.Decides.{nat_tests}
use Rattle.bits.specs.Bits.{bit}
use Rattle.bits.proofs.Bits.{gathered_alike, gathered_own, bit_shr}
use Rattle.mmd.specs.Cells.{short_field, long_field}
use Rattle.mmd.specs.Events.{after_read, after_write, after_line, after_count, after_finish, after_reset}
use Rattle.mmd.specs.Invariant.{Keeps, Settled}
use Rattle.mmd.specs.Meaning.{Meaning, shown, read_word}

-- a long counter k with its halves at registers h and q
module _ (m : Meaning) (k h q : ℕ) (here : m.layout.field k ≡ long_field h q) where
  pub counter_after_read : (r : ℕ) → (after_read m r).counter k ≡ cond (eqb h r) 0 (m.counter k)
  unfolding after_read
  counter_after_read r = grind (arith, nat_tests)

  pub held_after_read : (r : ℕ) → (after_read m r).held k ≡ cond (eqb h r) (m.counter k) (m.held k)
  unfolding after_read
  held_after_read r = grind (arith, nat_tests)

  pub counter_after_write : (r word : ℕ) → (after_write m r word).counter k ≡ m.counter k
  unfolding after_write
  counter_after_write r word = refl

  pub counter_after_line : (n : ℕ) (up : Bool) → (after_line m n up).counter k ≡ m.counter k
  unfolding after_line
  counter_after_line n up = refl

  pub counter_after_count : (n amount : ℕ) → (after_count m n amount).counter k ≡ cond (eqb k n) (min 4294967295 (m.counter k + amount)) (m.counter k)
  unfolding after_count
  counter_after_count n amount = grind (arith, nat_tests)

  pub counter_after_finish : (r b : ℕ) → (after_finish m r b).counter k ≡ m.counter k
  unfolding after_finish
  counter_after_finish r b = refl

  pub counter_after_reset : (after_reset m).counter k ≡ 0
  unfolding after_reset
  counter_after_reset = refl

  pub counter_settled : Settled m → m.counter k ≡ 0
  counter_settled settled = settled.counter_zero k

  module _ (keeps : Keeps m) where
    high_bit : (b : ℕ) → b < 16 → shown m h b ≡ bit (m.counter k / 2 ^ 16) b
    unfolding shown
    high_bit b below =
        let cell = keeps.sound.high_whole k h q b here below in
        let shift = bit_shr (m.counter k) 16 b in
        grind (arith, nat_tests)

    low_bit : (b : ℕ) → b < 16 → shown m q b ≡ bit (m.held k) b
    unfolding shown
    low_bit b below = let cell = keeps.sound.low_whole k h q b here below in grind (arith, nat_tests)

    -- the high half shows the counter's high 16 bits
    pub high_word : read_word m h ≡ m.counter k / 65536
    unfolding read_word
    high_word =
        let small : m.counter k ≤ 4294967295 = let t = keeps.counter_below_top k in grind (arith, nat_tests) in
        gathered_alike (shown m h) (bit (m.counter k / 2 ^ 16)) 16 high_bit
        ∙ gathered_own (m.counter k / 2 ^ 16) 16 ∙ omega arith

    -- the low half shows the held copy's low 16 bits
    pub low_word : read_word m q ≡ m.held k % 65536
    unfolding read_word
    low_word = gathered_alike (shown m q) (bit (m.held k)) 16 low_bit ∙ gathered_own (m.held k) 16

-- a short counter k of w bits, from bit low of register r on
module _ (m : Meaning) (k r low w : ℕ) (here : m.layout.field k ≡ short_field r low w) where
  pub short_shows_count : Keeps m → (p : ℕ) → p < w → shown m r (low + p) ≡ bit (m.counter k) p
  unfolding shown
  short_shows_count keeps p below = let cell = keeps.sound.short_whole k r low w p here below in grind (arith, nat_tests)

  pub short_after_read : (q : ℕ) → (after_read m q).counter k ≡ cond (eqb r q) 0 (m.counter k)
  unfolding after_read
  short_after_read q = grind (arith, nat_tests)

  pub short_after_count : (n amount : ℕ) → (after_count m n amount).counter k ≡ cond (eqb k n) (min (2 ^ w - 1) (m.counter k + amount)) (m.counter k)
  unfolding after_count
  short_after_count n amount = grind (arith, nat_tests)
