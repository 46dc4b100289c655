-- What every MMD keeps at all times, and when it is settled.
use Rattle.std.specs.Prelude.{◌≡◌, ℕ, ◌+◌, ◌<◌, ◌≤◌, Bool}
use Rattle.mmd.specs.Cells.{latch, short, high_half, low_half, Field, no_field, short_field, long_field, top}
use Rattle.mmd.specs.Meaning.{Layout, Meaning}

-- register r, bit b is place p of a short counter's field
abbrev pub ShortAt : ℕ → ℕ → ℕ → Field → Type 0
ShortAt r b p no_field = ⊥
ShortAt r b p (short_field q low w) = (q ≡ r) × (b ≡ low + p) × (p < w)
ShortAt r b p (long_field h l) = ⊥

-- register r, bit b is place p of a long counter's high half; of its low half
abbrev pub HighAt : ℕ → ℕ → ℕ → Field → Type 0
HighAt r b p no_field = ⊥
HighAt r b p (short_field q low w) = ⊥
HighAt r b p (long_field h l) = (h ≡ r) × (b ≡ p) × (p < 16)

abbrev pub LowAt : ℕ → ℕ → ℕ → Field → Type 0
LowAt r b p no_field = ⊥
LowAt r b p (short_field q low w) = ⊥
LowAt r b p (long_field h l) = (l ≡ r) × (b ≡ p) × (p < 16)

-- the bits of a counter stand where its field says, all of them and nowhere else: so a counter has one short field, or
-- one half of each sort, or nothing
pub record Sound (l : Layout) : Type 0 where
  pub short_placed : (r b k p : ℕ) → l.cell r b ≡ short k p → ShortAt r b p (l.field k)
  pub high_placed : (r b k p : ℕ) → l.cell r b ≡ high_half k p → HighAt r b p (l.field k)
  pub low_placed : (r b k p : ℕ) → l.cell r b ≡ low_half k p → LowAt r b p (l.field k)
  pub short_whole : (k r low w p : ℕ) → l.field k ≡ short_field r low w → p < w → l.cell r (low + p) ≡ short k p
  pub high_whole : (k r q p : ℕ) → l.field k ≡ long_field r q → p < 16 → l.cell r p ≡ high_half k p
  pub low_whole : (k r q p : ℕ) → l.field k ≡ long_field r q → p < 16 → l.cell q p ≡ low_half k p

pub record Keeps (m : Meaning) : Type 0 where
  pub sound : Sound m.layout
  -- a latching-high bit is one while its line is up, a latching-low bit zero while it is down
  pub latched : (r b l : ℕ) (s : Bool) → m.layout.cell r b ≡ latch s l → m.line l ≡ s → m.stored r b ≡ s
  -- no counter exceeds its top, and no copy
  pub counter_below_top : (k : ℕ) → m.counter k ≤ top (m.layout.field k)
  pub held_below_top : (k : ℕ) → m.held k ≤ top (m.layout.field k)

-- every latch equals its line, and all counters and copies are zero
pub record Settled (m : Meaning) : Type 0 where
  pub latch_is_line : (r b l : ℕ) (s : Bool) → m.layout.cell r b ≡ latch s l → m.stored r b ≡ m.line l
  pub counter_zero : (k : ℕ) → m.counter k ≡ 0
  pub held_zero : (k : ℕ) → m.held k ≡ 0
