-- Values in a span of a register.
use Rattle.std.specs.Prelude.{◌≡◌, ℕ, ◌-◌, Bool, ◌&&◌, nat_le}
use Rattle.bits.specs.Bits.{bit}

abbrev pub in_span : ℕ → ℕ → ℕ → Bool
in_span low high b = nat_le low b && nat_le b high

-- r has the value's low bits in the span, and zeros beside it
abbrev pub PutIntoSpan : ℕ → ℕ → ℕ → ℕ → Type 0
PutIntoSpan low high value r = (b : ℕ) → bit r b ≡ (in_span low high b && bit value (b - low))
