-- The bits that a latch word tells under its entry's masks.
use Rattle.std.proofs.Common.{◌≡◌, ℕ, ◌&&◌, ◌||◌}
use lib.Bits.{bit_and}
use Rattle.bits.specs.Bits.{bit}
use Rattle.bits.proofs.Bits.{bit_of_and, bit_of_or}
use Rattle.joining.specs.declared.latch.LatchWord.{LatchWord}
use Rattle.watch_list.specs.Watches.{latch_told}
use Rattle.watch_list.specs.declared.entry.LatchEntry.{LatchEntry}

pub bit_told : (e : LatchEntry) (w : LatchWord) (k : ℕ)
    → bit (latch_told e w) k ≡ ((bit w.any k && bit e.high_mask k) || (bit w.all k && bit e.low_mask k))
unfolding latch_told
bit_told e w k =
    let both = bit_of_or (bit_and w.any e.high_mask) (bit_and w.all e.low_mask) k in
    let high = bit_of_and w.any e.high_mask k in
    let low = bit_of_and w.all e.low_mask k in
    cc
