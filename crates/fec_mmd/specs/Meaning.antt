-- What the FEC registers mean, by the values that they keep.
use Rattle.std.specs.Prelude.{ℕ, ◌≤◌, Bool, false, cond, ◌==◌, nat_lt}
use Rattle.bits.specs.Bits.{bit}
use Rattle.mmd.specs.declared.counter.Counter.{Counter}
use Rattle.mmd.specs.Meaning.{Meaning}
use Rattle.fec_mmd.specs.Layout.{fec_layout}

-- 3.81.1 is latched high BER, 3.75.1 enable FEC error indication, 3.80 the BER monitor's control word
abbrev pub fec_stored : Bool → Bool → ℕ → ℕ → ℕ → Bool
fec_stored latched indication control r b =
    cond (r == 81) (cond (b == 1) latched false)
    (cond (r == 75) (cond (b == 1) indication false)
    (cond (r == 80) (cond (nat_lt b 16) (bit control b) false) false))

unfoldable pub fec_meaning : ℕ → Bool → Bool → ℕ → Counter → Counter → Meaning
fec_meaning lines latched indication control corrected uncorrected =
    record {
      layout = fec_layout;
      line = bit lines;
      stored = fec_stored latched indication control;
      counter = λ k. cond (k == 0) corrected.value (cond (k == 1) uncorrected.value 0);
      held = λ k. cond (k == 0) corrected.held (cond (k == 1) uncorrected.held 0);
    }

-- a counter and its held copy fit 32 bits
abbrev pub Fits32 : Counter → Type 0
Fits32 c = (c.value ≤ 4294967295) × (c.held ≤ 4294967295)
