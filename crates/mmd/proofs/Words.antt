-- The word that a read returns, by its bits.
use Rattle.std.proofs.Common.{◌≡◌, ℕ, ◌<◌}
use Rattle.bits.specs.Bits.{bit}
use Rattle.bits.proofs.Bits.{gathered_fits, bit_gathered}
use Rattle.mmd.specs.Meaning.{Meaning, shown, read_word}

pub read_word_fits : (m : Meaning) (r : ℕ) → read_word m r < 65536
unfolding read_word
read_word_fits m r = gathered_fits (shown m r) 16

pub bit_read_word : (m : Meaning) (r b : ℕ) → b < 16 → bit (read_word m r) b ≡ shown m r b
unfolding read_word
bit_read_word m r b h = bit_gathered (shown m r) 16 b h
