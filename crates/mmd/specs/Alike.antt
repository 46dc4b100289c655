-- Where the rules give an MMD nothing, a function of all numbers could still hold anything. These say that it holds nothing
-- there, so that one state is one meaning.
use Rattle.std.specs.Prelude.{◌≡◌, ℕ, ◌≤◌, false}
use Rattle.mmd.specs.Cells.{blank, no_field, is_long, keeps_state}
use Rattle.mmd.specs.Meaning.{Layout, Meaning}

-- nothing is laid out above bit 15 or counter 15
pub record Within (l : Layout) : Type 0 where
  pub blank_above_15 : (r b : ℕ) → 16 ≤ b → l.cell r b ≡ blank
  pub no_field_above_15 : (k : ℕ) → 16 ≤ k → l.field k ≡ no_field

pub record Bare (m : Meaning) : Type 0 where
  -- no line above 31 is up
  pub down_above_31 : (l : ℕ) → 32 ≤ l → m.line l ≡ false
  -- only latches, settings and self-clearing bits have a state
  pub no_other_state : (r b : ℕ) → keeps_state (m.layout.cell r b) ≡ false → m.stored r b ≡ false
  -- only long counters have a copy
  pub no_other_copy : (k : ℕ) → is_long (m.layout.field k) ≡ false → m.held k ≡ 0
