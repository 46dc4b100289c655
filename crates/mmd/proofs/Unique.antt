-- What every MMD keeps has one proof at most, so that it can stand in a type as an invariant.
use Rattle.std.proofs.Common.{ℕ}
use mathlib.Core.Bool.{Bool-set}
use mathlib.Core.HLevel.{⊥_prop, ×₃_prop}
use native.Mathlib.Nat.{ℕ_set}
use native.Mathlib.Bridge.{le_prop}
use Rattle.mmd.specs.Cells.{Cell_set, Field, no_field, short_field, long_field}
use Rattle.mmd.specs.Invariant.{ShortAt, HighAt, LowAt, Sound, Keeps}
use Rattle.mmd.specs.Meaning.{Layout, Meaning}

short_at_unique : (r b p : ℕ) (f : Field) → IsProp (ShortAt r b p f)
short_at_unique r b p no_field = ⊥_prop
short_at_unique r b p (short_field q low w) = ×₃_prop (ℕ_set _ _) (ℕ_set _ _) le_prop
short_at_unique r b p (long_field h l) = ⊥_prop

high_at_unique : (r b p : ℕ) (f : Field) → IsProp (HighAt r b p f)
high_at_unique r b p no_field = ⊥_prop
high_at_unique r b p (short_field q low w) = ⊥_prop
high_at_unique r b p (long_field h l) = ×₃_prop (ℕ_set _ _) (ℕ_set _ _) le_prop

low_at_unique : (r b p : ℕ) (f : Field) → IsProp (LowAt r b p f)
low_at_unique r b p no_field = ⊥_prop
low_at_unique r b p (short_field q low w) = ⊥_prop
low_at_unique r b p (long_field h l) = ×₃_prop (ℕ_set _ _) (ℕ_set _ _) le_prop

sound_unique : (l : Layout) → IsProp (Sound l)
sound_unique l x y = λ i.
    record {
      short_placed = λ r b k p e. short_at_unique r b p (l.field k) (x.short_placed r b k p e) (y.short_placed r b k p e) i;
      high_placed = λ r b k p e. high_at_unique r b p (l.field k) (x.high_placed r b k p e) (y.high_placed r b k p e) i;
      low_placed = λ r b k p e. low_at_unique r b p (l.field k) (x.low_placed r b k p e) (y.low_placed r b k p e) i;
      short_whole = λ k r low w p e h. Cell_set Bool-set ℕ_set _ _ (x.short_whole k r low w p e h) (y.short_whole k r low w p e h) i;
      high_whole = λ k r q p e h. Cell_set Bool-set ℕ_set _ _ (x.high_whole k r q p e h) (y.high_whole k r q p e h) i;
      low_whole = λ k r q p e h. Cell_set Bool-set ℕ_set _ _ (x.low_whole k r q p e h) (y.low_whole k r q p e h) i;
    }

pub keeps_unique : (m : Meaning) → IsProp (Keeps m)
keeps_unique m x y = λ i.
    record {
      sound = sound_unique m.layout x.sound y.sound i;
      latched = λ r b l s e up. Bool-set _ _ (x.latched r b l s e up) (y.latched r b l s e up) i;
      counter_below_top = λ k. le_prop (x.counter_below_top k) (y.counter_below_top k) i;
      held_below_top = λ k. le_prop (x.held_below_top k) (y.held_below_top k) i;
    }
