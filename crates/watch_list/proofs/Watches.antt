-- What feeding and looking leave of an entry.
use Rattle.std.proofs.Common.{◌≡◌, ℕ, refl}
use Rattle.watch_list.specs.Watches.{after_look, entry_of, new_watched, taken_in}
use Rattle.watch_list.specs.declared.entry.Entry.{Entry}
use Rattle.watch_list.specs.declared.entry.Entry.TheVariants.{Latch as EntryLatch, Count as EntryCount}
use Rattle.watch_list.specs.declared.watch.Watched.{Watched}
use Rattle.watch_list.specs.declared.watch.Watched.TheVariants.{Latch, Count}

-- ---- an entry stays the same

pub entry_of_new : (e : Entry) → entry_of (new_watched e) ≡ e
entry_of_new (EntryLatch e) = refl
entry_of_new (EntryCount e) = refl

pub entry_of_taken_in : (word low : ℕ) (w : Watched) → entry_of (taken_in word low w) ≡ entry_of w
unfolding taken_in
entry_of_taken_in word low (Latch w) = refl
entry_of_taken_in word low (Count w) = refl

pub entry_of_after_look : (n : ℕ) (w : Watched) → entry_of (after_look n w) ≡ entry_of w
unfolding after_look
entry_of_after_look n (Latch w) = refl
entry_of_after_look n (Count w) = refl
