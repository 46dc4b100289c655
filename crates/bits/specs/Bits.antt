-- The bits of a number, and the number of some bits.
use Rattle.std.specs.Prelude.{◌≡◌, ℕ, zero, suc, ◌+◌, ◌/◌, ◌%◌, ◌^◌, Bool, cond, ◌&&◌, ◌==◌, nat_lt}

-- bit k of n, true where it is one
unfoldable pub bit : ℕ → ℕ → Bool
bit n k = n / 2 ^ k % 2 == 1

-- the number whose bits 0 to w - 1 are f 0 to f (w - 1), and which has no others
unfoldable pub gathered : (ℕ → Bool) → ℕ → ℕ
gathered f zero = 0
gathered f (suc w) = gathered f w + cond (f w) (2 ^ w) 0

-- r is the word with that bit set, and every other bit as it was
abbrev pub SetsBit : ℕ → ℕ → Bool → ℕ → Type 0
SetsBit word place one r = (k : ℕ) → bit r k ≡ cond (k == place && nat_lt place 32) one (bit word k)
