-- No call changes a layout.
use Rattle.std.proofs.Common.{◌≡◌, ℕ, Bool, refl}
use Rattle.mmd.specs.Events.{after_read, after_write, after_line, after_count, after_finish, after_reset}
use Rattle.mmd.specs.Meaning.{Meaning}

pub layout_after_read : (m : Meaning) (r : ℕ) → (after_read m r).layout ≡ m.layout
unfolding after_read
layout_after_read m r = refl

pub layout_after_write : (m : Meaning) (r word : ℕ) → (after_write m r word).layout ≡ m.layout
unfolding after_write
layout_after_write m r word = refl

pub layout_after_line : (m : Meaning) (n : ℕ) (up : Bool) → (after_line m n up).layout ≡ m.layout
unfolding after_line
layout_after_line m n up = refl

pub layout_after_count : (m : Meaning) (k amount : ℕ) → (after_count m k amount).layout ≡ m.layout
unfolding after_count
layout_after_count m k amount = refl

pub layout_after_finish : (m : Meaning) (r b : ℕ) → (after_finish m r b).layout ≡ m.layout
unfolding after_finish
layout_after_finish m r b = refl

pub layout_after_reset : (m : Meaning) → (after_reset m).layout ≡ m.layout
unfolding after_reset
layout_after_reset m = refl
