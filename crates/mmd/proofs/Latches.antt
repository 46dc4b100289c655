-- What each call does to a latching bit and to the lines: a layer above goes by these laws and not by the definitions.
use Rattle.std.proofs.Common.{◌≡◌, ℕ, Bool, cond, ◌&&◌, eqb, ltb, refl, arith}
use Rattle.std.proofs.lemmas.Bool.Decides.{nat_tests}
use Rattle.mmd.specs.Cells.{latch}
use Rattle.mmd.specs.Events.{after_read, after_write, after_line, after_count, after_finish, after_reset, same}
use Rattle.mmd.specs.Invariant.{Keeps, Settled}
use Rattle.mmd.specs.Meaning.{Meaning, shown}

-- ---- lines

pub line_after_read : (m : Meaning) (r : ℕ) → (after_read m r).line ≡ m.line
unfolding after_read
line_after_read m r = refl

pub line_after_write : (m : Meaning) (r word : ℕ) → (after_write m r word).line ≡ m.line
unfolding after_write
line_after_write m r word = refl

pub line_after_line : (m : Meaning) (n : ℕ) (up : Bool) (l : ℕ) → (after_line m n up).line l ≡ cond (eqb l n && ltb n 32) up (m.line l)
unfolding after_line
line_after_line m n up l = refl

pub line_after_count : (m : Meaning) (k amount : ℕ) → (after_count m k amount).line ≡ m.line
unfolding after_count
line_after_count m k amount = refl

pub line_after_finish : (m : Meaning) (r b : ℕ) → (after_finish m r b).line ≡ m.line
unfolding after_finish
line_after_finish m r b = refl

pub line_after_reset : (m : Meaning) → (after_reset m).line ≡ m.line
unfolding after_reset
line_after_reset m = refl

-- ---- a latching bit of sense s on line l, at register r and bit b

module _ (m : Meaning) (r b l : ℕ) (s : Bool) (here : m.layout.cell r b ≡ latch s l) where
  pub latch_after_read : (q : ℕ) → shown (after_read m q) r b ≡ cond (eqb r q) (m.line l) (shown m r b)
  unfolding shown after_read
  latch_after_read q = grind (arith, nat_tests)

  pub latch_after_write : (q word : ℕ) → shown (after_write m q word) r b ≡ shown m r b
  unfolding shown after_write
  latch_after_write q word = grind (arith, nat_tests)

  pub latch_after_line : (n : ℕ) (up : Bool) → shown (after_line m n up) r b ≡ cond (eqb l n && ltb n 32 && same up s) s (shown m r b)
  unfolding shown after_line
  latch_after_line n up = grind (arith, nat_tests)

  pub latch_after_count : (k amount : ℕ) → shown (after_count m k amount) r b ≡ shown m r b
  unfolding shown after_count
  latch_after_count k amount = grind (arith, nat_tests)

  pub latch_after_finish : (q c : ℕ) → shown (after_finish m q c) r b ≡ shown m r b
  unfolding shown after_finish
  latch_after_finish q c = grind (arith, nat_tests)

  pub latch_after_reset : shown (after_reset m) r b ≡ m.line l
  unfolding shown after_reset
  latch_after_reset = grind (arith, nat_tests)

  -- while the line stands at its sense, so does the latch
  pub latch_while_line : Keeps m → m.line l ≡ s → shown m r b ≡ s
  unfolding shown
  latch_while_line keeps up = let k = keeps.latched r b l s here up in grind (arith, nat_tests)

  pub latch_settled : Settled m → shown m r b ≡ m.line l
  unfolding shown
  latch_settled settled = let e = settled.latch_is_line r b l s here in grind (arith, nat_tests)
