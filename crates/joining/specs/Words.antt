-- The two joinings: how kept words join, their empty words, and the word of one reading.
use Rattle.std.specs.Prelude.{ℕ, ◌+◌, ◌≤◌, min, bit_and, bit_or}
use Rattle.joining.specs.declared.latch.LatchWord.{LatchWord}
use Rattle.joining.specs.declared.count.CountWord.{CountWord}

-- ---- latches: the OR and the AND of the readings

abbrev pub latch_empty : LatchWord
latch_empty = record { any = 0; all = 65535 }

unfoldable pub latch_joined : LatchWord → LatchWord → LatchWord
latch_joined a b = record { any = bit_or a.any b.any; all = bit_and a.all b.all }

abbrev pub latch_word : ℕ → LatchWord
latch_word reading = record { any = reading; all = reading }

-- both words have 16 bits
abbrev pub LatchFits : LatchWord → Type 0
LatchFits w = (w.any ≤ 65535) × (w.all ≤ 65535)

-- ---- counts: the sum of the readings, which stops at 4,294,967,295

abbrev pub count_empty : CountWord
count_empty = record { sum = 0 }

unfoldable pub count_joined : CountWord → CountWord → CountWord
count_joined a b = record { sum = min 4294967295 (a.sum + b.sum) }

abbrev pub count_word : ℕ → CountWord
count_word reading = record { sum = reading }

-- the sum has 32 bits
abbrev pub CountFits : CountWord → Type 0
CountFits w = w.sum ≤ 4294967295
