-- What an MMD means: its layout, and the state of its lines, bits and counters. Registers, bits, lines and counters go by
-- their numbers; two MMDs of any kinds that agree in all of these have one meaning.
use Rattle.std.specs.Prelude.{ℕ, ◌+◌, Bool, false}
use Rattle.bits.specs.Bits.{bit, gathered}
use Rattle.mmd.specs.Cells.{Cell, blank, fixed, follower, latch, setting, self_clearing, short, high_half, low_half, Field}

pub record Layout : Type 0 where
  -- by register and bit
  pub cell : ℕ → ℕ → Cell
  -- by counter
  pub field : ℕ → Field

pub record Meaning : Type 0 where
  pub layout : Layout
  -- whether a line is up
  pub line : ℕ → Bool
  -- the state of a latch, setting or self-clearing bit, by register and bit; false at all others
  pub stored : ℕ → ℕ → Bool
  pub counter : ℕ → ℕ
  -- the held copy of a long counter
  pub held : ℕ → ℕ

-- the bit that a cell shows, whose own state is `kept`
abbrev pub shows : Meaning → Bool → Cell → Bool
shows m kept blank = false
shows m kept (fixed v) = v
shows m kept (follower l) = m.line l
shows m kept (latch s l) = kept
shows m kept (setting d) = kept
shows m kept self_clearing = kept
shows m kept (short k p) = bit (m.counter k) p
shows m kept (high_half k p) = bit (m.counter k) (16 + p)
shows m kept (low_half k p) = bit (m.held k) p

-- the bit that a read shows
unfoldable pub shown : Meaning → ℕ → ℕ → Bool
shown m r b = shows m (m.stored r b) (m.layout.cell r b)

-- the sixteen bits that a read returns
unfoldable pub read_word : Meaning → ℕ → ℕ
read_word m r = gathered (shown m r) 16

-- the state to which a reset brings a cell: a setting's default, a latch's line
abbrev pub default_state : (ℕ → Bool) → Cell → Bool
default_state line blank = false
default_state line (fixed v) = false
default_state line (follower l) = false
default_state line (latch s l) = line l
default_state line (setting d) = d
default_state line self_clearing = false
default_state line (short k p) = false
default_state line (high_half k p) = false
default_state line (low_half k p) = false

-- an MMD of a layout to which nothing has happened: its lines are down
unfoldable pub new_meaning : Layout → Meaning
new_meaning l =
    record {
      layout = l;
      line = λ _. false;
      stored = λ r b. default_state (λ _. false) (l.cell r b);
      counter = λ _. 0;
      held = λ _. 0;
    }
