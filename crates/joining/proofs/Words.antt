-- What joined words hold, and that they fit.
use Rattle.std.specs.Prelude.{◌≡◌, ℕ, ◌+◌, min, ◌&&◌, ◌||◌, refl}
use Rattle.std.proofs.Common.{arith}
use Rattle.std.proofs.lemmas.Nat.{and_le_l, or_lt}
use Rattle.bits.specs.Bits.{bit}
use Rattle.bits.proofs.Bits.{bit_of_and, bit_of_or}
use Rattle.joining.specs.Words.{count_joined, LatchFits, latch_joined}
use Rattle.joining.specs.declared.count.CountWord.{CountWord}
use Rattle.joining.specs.declared.latch.LatchWord.{LatchWord}

pub any_joined : (a b : LatchWord) (k : ℕ) → bit (latch_joined a b).any k ≡ (bit a.any k || bit b.any k)
unfolding latch_joined
any_joined a b k = bit_of_or a.any b.any k

pub all_joined : (a b : LatchWord) (k : ℕ) → bit (latch_joined a b).all k ≡ (bit a.all k && bit b.all k)
unfolding latch_joined
all_joined a b k = bit_of_and a.all b.all k

pub sum_joined : (a b : CountWord) → (count_joined a b).sum ≡ min 4294967295 (a.sum + b.sum)
unfolding count_joined
sum_joined a b = refl

pub latch_joined_fits : (a b : LatchWord) → LatchFits a → LatchFits b → LatchFits (latch_joined a b)
unfolding latch_joined
latch_joined_fits a b p q =
    let any = or_lt 16 a.any b.any (omega arith) (omega arith) in let all = and_le_l a.all b.all in (omega arith, omega arith)
