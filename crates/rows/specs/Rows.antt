-- What rows lay out: each bit that a row covers, by the row's kind and number.
use Rattle.std.specs.Prelude.{ℕ, ◌+◌, ◌-◌, ◌^◌, Bool, true, false, if◌then◌else◌, ◌&&◌, List, [], ◌∷◌, Some, None, Option, ◌==◌, nat_le, nat_lt}
use Rattle.bits.specs.Bits.{bit}
use Rattle.mmd.specs.Cells.{Cell, blank, fixed, follower, latch, setting, self_clearing, short, high_half, low_half}
use Rattle.rows.specs.Spans.{in_span}
use Rattle.rows.specs.declared.row.Row.{Row}
use Rattle.rows.specs.declared.row.Content.{Content}
use Rattle.rows.specs.declared.row.Content.TheVariants.{Fixed, Follower, LatchingHigh, LatchingLow, Setting, SelfClearing, ShortCounter, HighHalf, LowHalf}

-- the kinds by their numbers
abbrev pub content_numbered : ℕ → ℕ → Option Content
content_numbered kind n =
    if kind == 1 then Some (Fixed n) else (if kind == 2 then Some (Follower n) else (if kind == 3 then Some (LatchingHigh n) else
    (if kind == 4 then Some (LatchingLow n) else (if kind == 5 then Some (Setting n) else (if kind == 6 then Some SelfClearing else
    (if kind == 7 then Some (ShortCounter n) else (if kind == 8 then Some (HighHalf n) else (if kind == 9 then Some (LowHalf n) else None))))))))

unfoldable pub content_of : Row → Option Content
content_of row = content_numbered row.kind row.number

-- what is said of a row by its content, and what of one whose kind is not listed
abbrev pub if_listed : {X : Type 0} → X → (Content → X) → Option Content → X
if_listed other said None = other
if_listed other said (Some content) = said content

-- the cell at a place of a row's span, counted from its lowest bit
abbrev pub cell_at : Content → ℕ → Cell
cell_at (Fixed v) p = fixed (bit v p)
cell_at (Follower l) p = follower l
cell_at (LatchingHigh l) p = latch true l
cell_at (LatchingLow l) p = latch false l
cell_at (Setting d) p = setting (bit d p)
cell_at SelfClearing p = self_clearing
cell_at (ShortCounter k) p = short k p
cell_at (HighHalf k) p = high_half k p
cell_at (LowHalf k) p = low_half k p

abbrev pub cell_in : Option Content → ℕ → Cell
cell_in content p = if_listed blank (λ c. cell_at c p) content

abbrev pub covers : Row → ℕ → ℕ → Bool
covers row r b = row.register == r && in_span row.low row.high b

-- the cell at a register and bit: that of the first row that covers it
abbrev pub cell_of : List Row → ℕ → ℕ → Cell
cell_of [] r b = blank
cell_of (row ∷ rows) r b = if covers row r b then cell_in (content_of row) (b - row.low) else cell_of rows r b

-- kinds that span one bit, and kinds that fill the register
abbrev pub one_bit : Content → Bool
one_bit (Fixed v) = false
one_bit (Follower l) = true
one_bit (LatchingHigh l) = true
one_bit (LatchingLow l) = true
one_bit (Setting d) = false
one_bit SelfClearing = true
one_bit (ShortCounter k) = false
one_bit (HighHalf k) = false
one_bit (LowHalf k) = false

abbrev pub whole_register : Content → Bool
whole_register (Fixed v) = false
whole_register (Follower l) = false
whole_register (LatchingHigh l) = false
whole_register (LatchingLow l) = false
whole_register (Setting d) = false
whole_register SelfClearing = false
whole_register (ShortCounter k) = false
whole_register (HighHalf k) = true
whole_register (LowHalf k) = true

-- a span from low to high is right for the kind
abbrev pub span_suits : ℕ → ℕ → Content → Bool
span_suits low high content =
    (if one_bit content then low == high else true) && (if whole_register content then low == 0 && high == 15 else true)

-- the span lies within the register, and is right for the kind
unfoldable pub span_fits : Row → Bool
span_fits row = (nat_le row.low row.high && nat_le row.high 15) && if_listed true (span_suits row.low row.high) (content_of row)

-- a number, by the kind: a value as wide as the span, a line, nothing, or a counter
abbrev pub number_suits : ℕ → ℕ → Content → Bool
number_suits width n (Fixed v) = nat_lt v (2 ^ width)
number_suits width n (Follower l) = nat_le l 31
number_suits width n (LatchingHigh l) = nat_le l 31
number_suits width n (LatchingLow l) = nat_le l 31
number_suits width n (Setting d) = nat_lt d (2 ^ width)
number_suits width n SelfClearing = n == 0
number_suits width n (ShortCounter k) = nat_le k 15
number_suits width n (HighHalf k) = nat_le k 15
number_suits width n (LowHalf k) = nat_le k 15

abbrev pub number_fits : Row → Bool
number_fits row = if_listed true (number_suits (row.high + 1 - row.low) row.number) (content_of row)
