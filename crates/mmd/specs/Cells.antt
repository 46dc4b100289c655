-- What a register bit can be, by the tags of IEEE 802.3 Clause 45.2, and what a counter's field is.
use Rattle.std.specs.Prelude.{ℕ, ◌-◌, ◌^◌, Bool, true, false}

pub data Cell : Type 0 where
  -- in no row: reads zero
  blank : Cell
  -- RO: this value
  fixed : Bool → Cell
  -- RO: shows this line, up as one
  follower : ℕ → Cell
  -- RO, LH where the sense is true and LL where it is false: latches this line
  latch : Bool → ℕ → Cell
  -- R/W: with this default
  setting : Bool → Cell
  -- R/W SC
  self_clearing : Cell
  -- RO NR: a bit of a short counter, by the counter and the place in it
  short : ℕ → ℕ → Cell
  -- RO MW NR: a bit of a long counter's high or low half, by the counter and the place in the half
  high_half : ℕ → ℕ → Cell
  low_half : ℕ → ℕ → Cell
  deriving IsSet as Cell_set

-- where a counter stands in the registers
pub data Field : Type 0 where
  no_field : Field
  -- register, lowest bit, width
  short_field : ℕ → ℕ → ℕ → Field
  -- register of the high half, register of the low half
  long_field : ℕ → ℕ → Field
  deriving IsSet as Field_set

-- the largest number that a counter reaches
abbrev pub top : Field → ℕ
top no_field = 0
top (short_field r low w) = 2 ^ w - 1
top (long_field h l) = 4294967295

abbrev pub has_field : Field → Bool
has_field no_field = false
has_field (short_field r low w) = true
has_field (long_field h l) = true

abbrev pub is_long : Field → Bool
is_long no_field = false
is_long (short_field r low w) = false
is_long (long_field h l) = true

-- the bits that have a state of their own
abbrev pub keeps_state : Cell → Bool
keeps_state blank = false
keeps_state (fixed v) = false
keeps_state (follower l) = false
keeps_state (latch s l) = true
keeps_state (setting d) = true
keeps_state self_clearing = true
keeps_state (short k p) = false
keeps_state (high_half k p) = false
keeps_state (low_half k p) = false

abbrev pub is_self_clearing : Cell → Bool
is_self_clearing blank = false
is_self_clearing (fixed v) = false
is_self_clearing (follower l) = false
is_self_clearing (latch s l) = false
is_self_clearing (setting d) = false
is_self_clearing self_clearing = true
is_self_clearing (short k p) = false
is_self_clearing (high_half k p) = false
is_self_clearing (low_half k p) = false
