-- What becomes of an entry's eight words.
use Rattle.std.specs.Prelude.{ℕ, ◌+◌, ◌*◌, map, get_or, replicate, bit_and, bit_or, slice_index_or, slice_set}
use Rattle.joining.specs.Words.{latch_empty, latch_joined, latch_word, count_empty, count_joined, count_word}
use Rattle.joining.specs.declared.latch.LatchWord.{LatchWord}
use Rattle.watch_list.specs.declared.entry.LatchEntry.{LatchEntry}
use Rattle.watch_list.specs.declared.entry.Entry.{Entry}
use Rattle.watch_list.specs.declared.entry.Entry.TheVariants.{Latch as EntryLatch, Count as EntryCount}
use Rattle.watch_list.specs.declared.watch.Watch.{Watch}
use Rattle.watch_list.specs.declared.watch.Watched.{Watched}
use Rattle.watch_list.specs.declared.watch.Watched.TheVariants.{Latch, Count}

-- all eight words take a word in
abbrev pub fed : {E J : Type 0} → (J → J → J) → J → Watch E J → Watch E J
fed joined word w = record { entry = w.entry; words = map (λ kept. joined kept word) w.words }

-- one watcher's word is emptied
abbrev pub emptied : {E J : Type 0} → J → ℕ → Watch E J → Watch E J
emptied empty n w = record { entry = w.entry; words = slice_set w.words n empty }

abbrev pub entry_of : Watched → Entry
entry_of (Latch w) = EntryLatch w.entry
entry_of (Count w) = EntryCount w.entry

-- an entry after set-up: every word is empty
abbrev pub new_watched : Entry → Watched
new_watched (EntryLatch e) = Latch (record { entry = e; words = replicate 8 latch_empty })
new_watched (EntryCount e) = Count (record { entry = e; words = replicate 8 count_empty })

-- what a latch word tells under the masks of its entry: the OR under the high mask, the AND under the low mask
unfoldable pub latch_told : LatchEntry → LatchWord → ℕ
latch_told e w = bit_or (bit_and w.any e.high_mask) (bit_and w.all e.low_mask)

-- what a watcher is told, and what is kept afterwards
unfoldable pub told : ℕ → Watched → ℕ
told n (Latch w) = latch_told w.entry (slice_index_or w.words n latch_empty)
told n (Count w) = (get_or w.words n count_empty).sum

unfoldable pub after_look : ℕ → Watched → Watched
after_look n (Latch w) = Latch (emptied latch_empty n w)
after_look n (Count w) = Count (emptied count_empty n w)

-- the reading of an entry's registers is taken in: its one word, or high and low half as 65,536 × high + low
unfoldable pub taken_in : ℕ → ℕ → Watched → Watched
taken_in word low (Latch w) = Latch (fed latch_joined (latch_word word) w)
taken_in word low (Count w) = Count (fed count_joined (count_word (65536 * word + low)) w)
