-- A long counter as a watcher sees it: the sum that it is owed so far, and what the counter holds.
use Rattle.std.proofs.Common.{◌≡◌, ℕ, ◌+◌, ◌*◌, ◌%◌, ◌<◌, min, Bool, cond, eqb, length, get_or, refl, ap, ◌∙◌, ap₂, arith, length-set, get_or-set_other, get_or-set_same}
use lib.ListN.{length-map}
use Rattle.std.proofs.lemmas.List.{get_or-map}
use Rattle.std.proofs.lemmas.Bool.Decides.{nat_tests}
use Rattle.mmd.specs.Cells.{long_field}
use Rattle.mmd.specs.Events.{after_read, after_write, after_line, after_count, after_finish, after_reset}
use Rattle.mmd.specs.Invariant.{Keeps}
use Rattle.mmd.specs.Meaning.{Meaning, read_word}
use Rattle.mmd.proofs.Counters.{counter_after_read, counter_after_write, counter_after_line, counter_after_count, counter_after_finish, counter_after_reset, held_after_read, high_word, low_word}
use Rattle.mmd.proofs.Kept.{read_keeps}
use Rattle.mmd.proofs.Layouts.{layout_after_read, layout_after_write, layout_after_line, layout_after_count, layout_after_finish, layout_after_reset}
use Rattle.call.specs.declared.call.Request.{Request}
use Rattle.call.specs.declared.call.Request.TheVariants.{Read, Write, Line, Count, Finish, Reset}
use Rattle.joining.specs.Words.{count_empty, count_joined, count_word}
use Rattle.joining.proofs.Words.{sum_joined}
use Rattle.watch_list.specs.Watches.{after_look, taken_in, told}
use Rattle.watch_list.specs.declared.entry.CountEntry.{CountEntry}
use Rattle.watch_list.specs.declared.entry.Entry.TheVariants.{Count as EntryCount}
use Rattle.watch_list.specs.declared.watch.Watched.{Watched}
use Rattle.watch_list.specs.declared.watch.Watched.TheVariants.{Latch, Count as Counted}
use Rattle.promise.specs.Rules.{first_word, second_word}
use Rattle.promise.proofs.Views.{Viewing}

pub record CountView : Type 0 where
  pub sum : ℕ
  pub counter : ℕ

-- a sum stops here
abbrev pub capped : ℕ → ℕ
capped n = min 4294967295 n

abbrev pub count_read : CountView → CountView
count_read v = record { sum = capped (v.sum + v.counter); counter = 0 }

abbrev pub count_emptied : CountView → CountView
count_emptied v = record { sum = 0; counter = v.counter }

abbrev pub count_asked : ℕ → Request → CountView → CountView
count_asked k (Read register) v = v
count_asked k (Write register word) v = v
count_asked k (Line n up) v = v
count_asked k (Count counter amount) v = cond (eqb counter k) (record { sum = v.sum; counter = capped (v.counter + amount) }) v
count_asked k (Finish register b) v = v
count_asked k Reset v = v

-- counter k with its halves at registers high and low
pub record ShowsCount (high low k : ℕ) (m : Meaning) (v : CountView) : Type 0 where
  pub field : m.layout.field k ≡ long_field high low
  pub counter : m.counter k ≡ v.counter

abbrev pub OwesCount : ℕ → Watched → CountView → Type 0
OwesCount watcher (Latch x) v = ⊥
OwesCount watcher (Counted x) v = (length x.words ≡ 8) × ((get_or x.words watcher count_empty).sum ≡ v.sum)

module _ (high low k : ℕ) (m : Meaning) (v : CountView) (s : ShowsCount high low k m v) where
  pub count_shows_own_read : ShowsCount high low k (after_read (after_read m high) low) (count_read v)
  count_shows_own_read =
      let once = after_read m high in
      let field : once.layout.field k ≡ long_field high low = ap (λ lay. lay.field k) (layout_after_read m high) ∙ s.field in
      let first = counter_after_read m k high low s.field high in
      let second = counter_after_read once k high low field low in
      record { field = ap (λ lay. lay.field k) (layout_after_read once low) ∙ field; counter = grind (arith, nat_tests) }

  pub count_shows_other_read : (r : ℕ) → (high ≡ r → ⊥) → ShowsCount high low k (after_read m r) v
  count_shows_other_read r apart =
      let read = counter_after_read m k high low s.field r in
      let c = s.counter in
      record { field = ap (λ lay. lay.field k) (layout_after_read m r) ∙ s.field; counter = grind (arith, nat_tests) }

  pub count_shows_write : (r word : ℕ) → ShowsCount high low k (after_write m r word) v
  count_shows_write r word =
      record { field = ap (λ lay. lay.field k) (layout_after_write m r word) ∙ s.field; counter = counter_after_write m k high low s.field r word ∙ s.counter }

  pub count_shows_line : (n : ℕ) (up : Bool) → ShowsCount high low k (after_line m n up) v
  count_shows_line n up =
      record { field = ap (λ lay. lay.field k) (layout_after_line m n up) ∙ s.field; counter = counter_after_line m k high low s.field n up ∙ s.counter }

  pub count_shows_count : (n amount : ℕ) → ShowsCount high low k (after_count m n amount) (count_asked k (Count n amount) v)
  count_shows_count n amount =
      let added = counter_after_count m k high low s.field n amount in
      let c = s.counter in
      record { field = ap (λ lay. lay.field k) (layout_after_count m n amount) ∙ s.field; counter = grind (arith, nat_tests) }

  pub count_shows_finish : (r b : ℕ) → ShowsCount high low k (after_finish m r b) v
  count_shows_finish r b =
      record { field = ap (λ lay. lay.field k) (layout_after_finish m r b) ∙ s.field; counter = counter_after_finish m k high low s.field r b ∙ s.counter }

  -- the two halves, read one after the other, are the counter
  pub count_reading : Keeps m → 65536 * read_word m high + read_word (after_read m high) low ≡ v.counter
  count_reading keeps =
      let once = after_read m high in
      let field : once.layout.field k ≡ long_field high low = ap (λ lay. lay.field k) (layout_after_read m high) ∙ s.field in
      let top = high_word m k high low s.field keeps in
      let bottom = low_word once k high low field (read_keeps m keeps high) in
      let held = held_after_read m k high low s.field high in
      let holds : once.held k ≡ m.counter k = grind (arith, nat_tests) in
      let c = s.counter in
      ap₂ (λ a b. 65536 * a + b) top (bottom ∙ ap (λ n. n % 65536) holds) ∙ omega arith

pub count_shows_reset : (high low k : ℕ) (m : Meaning) (v : CountView) → ShowsCount high low k m (count_read v) → ShowsCount high low k (after_reset m) (count_read v)
count_shows_reset high low k m v s =
    record { field = ap (λ lay. lay.field k) (layout_after_reset m) ∙ s.field; counter = counter_after_reset m k high low s.field }

-- ---- the words

module _ (e : CountEntry) (watcher k : ℕ) (below : watcher < 8) where
  pub count_owed_read : (m : Meaning) (x : Watched) (v : CountView) → Keeps m → ShowsCount e.high e.low k m v → OwesCount watcher x v
      → OwesCount watcher (taken_in (first_word m (EntryCount e)) (second_word m (EntryCount e)) x) (count_read v)
  unfolding taken_in
  count_owed_read m (Latch x) v keeps s owes = absurd owes
  count_owed_read m (Counted x) v keeps s owes =
      let reading = 65536 * read_word m e.high + read_word (after_read m e.high) e.low in
      let long : watcher < length x.words = let h = owes.0 in omega arith in
      let kept = get_or x.words watcher count_empty in
      let at = get_or-map (λ w. count_joined w (count_word reading)) x.words watcher count_empty count_empty long in (
        length-map x.words (λ w. count_joined w (count_word reading)) ∙ owes.0,
        ap (λ w. w.sum) at ∙ sum_joined kept (count_word reading) ∙ ap₂ (λ a b. min 4294967295 (a + b)) owes.1 (count_reading e.high e.low k m v s keeps),
      )

  pub count_owed_look : (x : Watched) (v : CountView) → OwesCount watcher x v → OwesCount watcher (after_look watcher x) (count_emptied v)
  unfolding after_look
  count_owed_look (Latch x) v owes = absurd owes
  count_owed_look (Counted x) v owes =
      let long : watcher < length x.words = let h = owes.0 in omega arith in
      (length-set x.words watcher count_empty ∙ owes.0, ap (λ w. w.sum) (get_or-set_same x.words watcher count_empty count_empty long))

  pub count_owed_other_look : (x : Watched) (v : CountView) (w : ℕ) → (watcher ≡ w → ⊥) → OwesCount watcher x v → OwesCount watcher (after_look w x) v
  unfolding after_look
  count_owed_other_look (Latch x) v w apart owes = absurd owes
  count_owed_other_look (Counted x) v w apart owes =
      (length-set x.words w count_empty ∙ owes.0, ap (λ c. c.sum) (get_or-set_other x.words w watcher count_empty count_empty apart) ∙ owes.1)

  pub count_owed_asked : (x : Watched) (v : CountView) (q : Request) → OwesCount watcher x v → OwesCount watcher x (count_asked k q v)
  count_owed_asked (Latch x) v q owes = absurd owes
  count_owed_asked (Counted x) v q owes = (owes.0, owes.1 ∙ unmoved q)
    where
      unmoved : (q : Request) → v.sum ≡ (count_asked k q v).sum
      unmoved (Read register) = refl
      unmoved (Write register word) = refl
      unmoved (Line n up) = refl
      unmoved (Count counter amount) = grind (arith, nat_tests)
      unmoved (Finish register c) = refl
      unmoved Reset = refl

  abbrev pub count_viewing : Viewing (EntryCount e) watcher
  count_viewing =
      record {
        View = CountView;
        Shows = ShowsCount e.high e.low k;
        KeepsOwed = OwesCount watcher;
        read = count_read;
        emptied = count_emptied;
        asked = count_asked k;
        shows_entry_read = λ m v keeps s. count_shows_own_read e.high e.low k m v s;
        shows_other_read = λ m v r apart s. count_shows_other_read e.high e.low k m v s r apart;
        shows_write = λ m v r word s. count_shows_write e.high e.low k m v s r word;
        shows_line = λ m v n up small s. count_shows_line e.high e.low k m v s n up;
        shows_count = λ m v n amount s. count_shows_count e.high e.low k m v s n amount;
        shows_finish = λ m v r b s. count_shows_finish e.high e.low k m v s r b;
        shows_reset = count_shows_reset e.high e.low k;
        shows_emptied = λ m v s. record { field = s.field; counter = s.counter };
        owed_read = λ m x v keeps is s owes. count_owed_read m x v keeps s owes;
        owed_look = count_owed_look;
        owed_other_look = count_owed_other_look;
        owed_asked = count_owed_asked;
      }

  -- a look tells the sum that the watcher is owed
  pub told_sum : (x : Watched) (v : CountView) → OwesCount watcher x v → told watcher x ≡ v.sum
  unfolding told
  told_sum (Latch x) v owes = absurd owes
  told_sum (Counted x) v owes = owes.1
