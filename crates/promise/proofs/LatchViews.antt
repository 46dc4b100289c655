-- A latching bit as a watcher sees it: whether it is owed that the line stood at the bit's sense, whether the bit stands
-- there, and whether the line does now.
use Rattle.std.proofs.Common.{◌≡◌, ℕ, ◌<◌, ◌≤◌, Bool, true, false, cond, ◌||◌, eqb, length, get_or, refl, ap, ◌∙◌, ap₂, arith, length-set, get_or-set_other, get_or-set_same}
use lib.Bits.{bit_and}
use lib.ListN.{length-map}
use Rattle.std.proofs.lemmas.List.{get_or-map}
use Rattle.std.proofs.lemmas.Bool.Decides.{nat_tests}
use Rattle.bits.specs.Bits.{bit}
use Rattle.bits.proofs.Bits.{bit_of_and, bit_ones, bit_zero}
use Rattle.mmd.specs.Cells.{latch}
use Rattle.mmd.specs.Events.{after_read, after_write, after_line, after_count, after_finish, after_reset, same}
use Rattle.mmd.specs.Meaning.{Meaning, read_word, shown}
use Rattle.mmd.proofs.Latches.{latch_after_read, latch_after_write, latch_after_line, latch_after_count, latch_after_finish, latch_after_reset, line_after_read, line_after_write, line_after_line, line_after_count, line_after_finish, line_after_reset}
use Rattle.mmd.proofs.Layouts.{layout_after_read, layout_after_write, layout_after_line, layout_after_count, layout_after_finish, layout_after_reset}
use Rattle.mmd.proofs.Words.{bit_read_word}
use Rattle.call.specs.declared.call.Request.{Request}
use Rattle.call.specs.declared.call.Request.TheVariants.{Read, Write, Line, Count, Finish, Reset}
use Rattle.joining.specs.Words.{latch_empty, latch_joined, latch_word}
use Rattle.joining.specs.declared.latch.LatchWord.{LatchWord}
use Rattle.joining.proofs.Words.{any_joined, all_joined}
use Rattle.watch_list.specs.Watches.{entry_of, after_look, latch_told, taken_in, told}
use Rattle.watch_list.specs.declared.entry.Entry.TheVariants.{Latch as EntryLatch}
use Rattle.watch_list.specs.declared.entry.LatchEntry.{LatchEntry}
use Rattle.watch_list.specs.declared.watch.Watched.{Watched}
use Rattle.watch_list.proofs.Told.{bit_told}
use Rattle.watch_list.specs.declared.watch.Watched.TheVariants.{Latch, Count as Counted}
use Rattle.promise.specs.Promises.{mask_of}
use Rattle.promise.specs.Rules.{first_word, second_word}
use Rattle.promise.proofs.Views.{Viewing}

pub record LatchView : Type 0 where
  pub owed : Bool
  pub stands : Bool
  pub up : Bool

abbrev pub latch_read : LatchView → LatchView
latch_read v = record { owed = v.owed || v.stands; stands = v.up; up = v.up }

abbrev pub latch_emptied : LatchView → LatchView
latch_emptied v = record { owed = false; stands = v.stands; up = v.up }

abbrev pub latch_lined : Bool → LatchView → LatchView
latch_lined up v = record { owed = v.owed; stands = v.stands || up; up = up }

abbrev pub latch_asked : Bool → ℕ → Request → LatchView → LatchView
latch_asked sense l (Read register) v = v
latch_asked sense l (Write register word) v = v
latch_asked sense l (Line n up) v = cond (eqb n l) (latch_lined (same sense up) v) v
latch_asked sense l (Count counter amount) v = v
latch_asked sense l (Finish register b) v = v
latch_asked sense l Reset v = v

-- the bit of sense s at register r and bit b, on line l
pub record ShowsLatch (r b l : ℕ) (sense : Bool) (m : Meaning) (v : LatchView) : Type 0 where
  pub cell : m.layout.cell r b ≡ latch sense l
  pub stands : same sense (shown m r b) ≡ v.stands
  pub up : same sense (m.line l) ≡ v.up

-- the part of a word that keeps bits of a sense
abbrev pub part : Bool → LatchWord → ℕ
part sense w = cond sense w.any w.all

abbrev pub OwesLatch : ℕ → ℕ → Bool → Watched → LatchView → Type 0
OwesLatch watcher b sense (Latch x) v = (length x.words ≡ 8) × (same sense (bit (part sense (get_or x.words watcher latch_empty)) b) ≡ v.owed)
OwesLatch watcher b sense (Counted x) v = ⊥

module _ (r b l : ℕ) (sense : Bool) (m : Meaning) (v : LatchView) (s : ShowsLatch r b l sense m v) where
  pub latch_shows_own_read : ShowsLatch r b l sense (after_read m r) (latch_read v)
  latch_shows_own_read =
      let at = latch_after_read m r b l sense s.cell r in
      let line = ap (λ f. f l) (line_after_read m r) in
      record {
        cell = ap (λ lay. lay.cell r b) (layout_after_read m r) ∙ s.cell;
        stands = let u = s.up in grind (arith, nat_tests);
        up = ap (same sense) line ∙ s.up;
      }

  pub latch_shows_other_read : (q : ℕ) → (r ≡ q → ⊥) → ShowsLatch r b l sense (after_read m q) v
  latch_shows_other_read q apart =
      let at = latch_after_read m r b l sense s.cell q in
      record {
        cell = ap (λ lay. lay.cell r b) (layout_after_read m q) ∙ s.cell;
        stands = let e = s.stands in grind (arith, nat_tests);
        up = ap (λ f. same sense (f l)) (line_after_read m q) ∙ s.up;
      }

  pub latch_shows_write : (q word : ℕ) → ShowsLatch r b l sense (after_write m q word) v
  latch_shows_write q word =
      record {
        cell = ap (λ lay. lay.cell r b) (layout_after_write m q word) ∙ s.cell;
        stands = ap (same sense) (latch_after_write m r b l sense s.cell q word) ∙ s.stands;
        up = ap (λ f. same sense (f l)) (line_after_write m q word) ∙ s.up;
      }

  pub latch_shows_line : (n : ℕ) (up : Bool) → n ≤ 31 → ShowsLatch r b l sense (after_line m n up) (latch_asked sense l (Line n up) v)
  latch_shows_line n up fits =
      let at = latch_after_line m r b l sense s.cell n up in
      let line = line_after_line m n up l in
      let e = s.stands in
      let u = s.up in
      record {
        cell = ap (λ lay. lay.cell r b) (layout_after_line m n up) ∙ s.cell;
        stands = grind (arith, nat_tests);
        up = grind (arith, nat_tests);
      }

  pub latch_shows_count : (k amount : ℕ) → ShowsLatch r b l sense (after_count m k amount) v
  latch_shows_count k amount =
      record {
        cell = ap (λ lay. lay.cell r b) (layout_after_count m k amount) ∙ s.cell;
        stands = ap (same sense) (latch_after_count m r b l sense s.cell k amount) ∙ s.stands;
        up = ap (λ f. same sense (f l)) (line_after_count m k amount) ∙ s.up;
      }

  pub latch_shows_finish : (q c : ℕ) → ShowsLatch r b l sense (after_finish m q c) v
  latch_shows_finish q c =
      record {
        cell = ap (λ lay. lay.cell r b) (layout_after_finish m q c) ∙ s.cell;
        stands = ap (same sense) (latch_after_finish m r b l sense s.cell q c) ∙ s.stands;
        up = ap (λ f. same sense (f l)) (line_after_finish m q c) ∙ s.up;
      }

pub latch_shows_reset : (r b l : ℕ) (sense : Bool) (m : Meaning) (v : LatchView) → ShowsLatch r b l sense m (latch_read v) → ShowsLatch r b l sense (after_reset m) (latch_read v)
latch_shows_reset r b l sense m v s =
    record {
      cell = ap (λ lay. lay.cell r b) (layout_after_reset m) ∙ s.cell;
      stands = ap (same sense) (latch_after_reset m r b l sense s.cell) ∙ s.up;
      up = ap (λ f. same sense (f l)) (line_after_reset m) ∙ s.up;
    }

-- ---- the words

part_joined : (sense : Bool) (a w : LatchWord) (b : ℕ) → same sense (bit (part sense (latch_joined a w)) b) ≡ (same sense (bit (part sense a) b) || same sense (bit (part sense w) b))
part_joined true a w b = any_joined a w b
part_joined false a w b = let e = all_joined a w b in grind (arith, nat_tests)

pub part_empty : (sense : Bool) (b : ℕ) → b < 16 → same sense (bit (part sense latch_empty) b) ≡ false
part_empty true b fits = bit_zero b
part_empty false b fits = let e = bit_ones b in grind (arith, nat_tests)

-- a bit under its mask tells that part of the word
told_part : (sense : Bool) (e : LatchEntry) (word : LatchWord) (b : ℕ) → bit_and e.high_mask e.low_mask ≡ 0 → bit (mask_of sense e) b ≡ true
    → same sense (bit (latch_told e word) b) ≡ same sense (bit (part sense word) b)
told_part true e word b apart masked =
    let bits = bit_told e word b in
    let shared : bit (bit_and e.high_mask e.low_mask) b ≡ false = ap (λ n. bit n b) apart ∙ bit_zero b in
    let both = bit_of_and e.high_mask e.low_mask b in
    grind (arith, nat_tests)
told_part false e word b apart masked =
    let bits = bit_told e word b in
    let shared : bit (bit_and e.high_mask e.low_mask) b ≡ false = ap (λ n. bit n b) apart ∙ bit_zero b in
    let both = bit_of_and e.high_mask e.low_mask b in
    grind (arith, nat_tests)

module _ (e : LatchEntry) (watcher b l : ℕ) (sense : Bool) (below : watcher < 8) (fits : b < 16) where
  pub latch_owed_read : (m : Meaning) (x : Watched) (v : LatchView) → ShowsLatch e.register b l sense m v → OwesLatch watcher b sense x v
      → OwesLatch watcher b sense (taken_in (first_word m (EntryLatch e)) (second_word m (EntryLatch e)) x) (latch_read v)
  unfolding taken_in
  latch_owed_read m (Latch x) v s owes =
      let word = read_word m e.register in
      let long : watcher < length x.words = let h = owes.0 in omega arith in
      let kept = get_or x.words watcher latch_empty in
      let at = get_or-map (λ k. latch_joined k (latch_word word)) x.words watcher latch_empty latch_empty long in
      let joins = part_joined sense kept (latch_word word) b in
      let same_word : bit (part sense (latch_word word)) b ≡ shown m e.register b = ap (λ n. bit n b) (both_parts sense word) ∙ bit_read_word m e.register b fits in (
        length-map x.words (λ k. latch_joined k (latch_word word)) ∙ owes.0,
        ap (λ k. same sense (bit (part sense k) b)) at ∙ joins ∙ ap₂ (λ c d. c || d) owes.1 (ap (same sense) same_word ∙ s.stands),
      )
    where
      both_parts : (s : Bool) (n : ℕ) → part s (latch_word n) ≡ n
      both_parts true n = refl
      both_parts false n = refl
  latch_owed_read m (Counted x) v s owes = absurd owes

  pub latch_owed_look : (x : Watched) (v : LatchView) → OwesLatch watcher b sense x v → OwesLatch watcher b sense (after_look watcher x) (latch_emptied v)
  unfolding after_look
  latch_owed_look (Latch x) v owes =
      let long : watcher < length x.words = let h = owes.0 in omega arith in (
        length-set x.words watcher latch_empty ∙ owes.0,
        ap (λ k. same sense (bit (part sense k) b)) (get_or-set_same x.words watcher latch_empty latch_empty long) ∙ part_empty sense b fits,
      )
  latch_owed_look (Counted x) v owes = absurd owes

  pub latch_owed_other_look : (x : Watched) (v : LatchView) (w : ℕ) → (watcher ≡ w → ⊥) → OwesLatch watcher b sense x v → OwesLatch watcher b sense (after_look w x) v
  unfolding after_look
  latch_owed_other_look (Latch x) v w apart owes = (
    length-set x.words w latch_empty ∙ owes.0,
    ap (λ k. same sense (bit (part sense k) b)) (get_or-set_other x.words w watcher latch_empty latch_empty apart) ∙ owes.1,
  )
  latch_owed_other_look (Counted x) v w apart owes = absurd owes

  pub latch_owed_asked : (x : Watched) (v : LatchView) (q : Request) → OwesLatch watcher b sense x v → OwesLatch watcher b sense x (latch_asked sense l q v)
  latch_owed_asked (Latch x) v q owes = (owes.0, owes.1 ∙ unmoved q)
    where
      unmoved : (q : Request) → v.owed ≡ (latch_asked sense l q v).owed
      unmoved (Read register) = refl
      unmoved (Write register word) = refl
      unmoved (Line n up) = grind (arith, nat_tests)
      unmoved (Count counter amount) = refl
      unmoved (Finish register c) = refl
      unmoved Reset = refl
  latch_owed_asked (Counted x) v q owes = absurd owes

  abbrev pub latch_viewing : Viewing (EntryLatch e) watcher
  latch_viewing =
      record {
        View = LatchView;
        Shows = ShowsLatch e.register b l sense;
        KeepsOwed = OwesLatch watcher b sense;
        read = latch_read;
        emptied = latch_emptied;
        asked = latch_asked sense l;
        shows_entry_read = λ m v keeps s. latch_shows_own_read e.register b l sense m v s;
        shows_other_read = λ m v r apart s. latch_shows_other_read e.register b l sense m v s r apart;
        shows_write = λ m v r word s. latch_shows_write e.register b l sense m v s r word;
        shows_line = λ m v n up small s. latch_shows_line e.register b l sense m v s n up small;
        shows_count = λ m v k amount s. latch_shows_count e.register b l sense m v s k amount;
        shows_finish = λ m v r c s. latch_shows_finish e.register b l sense m v s r c;
        shows_reset = latch_shows_reset e.register b l sense;
        shows_emptied = λ m v s. record { cell = s.cell; stands = s.stands; up = s.up };
        owed_read = λ m x v keeps is s owes. latch_owed_read m x v s owes;
        owed_look = latch_owed_look;
        owed_other_look = latch_owed_other_look;
        owed_asked = latch_owed_asked;
      }

  -- what a look tells of the bit is what the watcher is owed
  pub told_owed : (x : Watched) (v : LatchView) → entry_of x ≡ EntryLatch e → bit_and e.high_mask e.low_mask ≡ 0 → bit (mask_of sense e) b ≡ true
      → OwesLatch watcher b sense x v → same sense (bit (told watcher x) b) ≡ v.owed
  unfolding told
  told_owed (Latch x) v is apart masked owes =
      let entry : x.entry ≡ e = cc in
      let word = get_or x.words watcher latch_empty in
      ap (λ en. same sense (bit (latch_told en word) b)) entry ∙ told_part sense e word b apart masked ∙ owes.1
  told_owed (Counted x) v is apart masked owes = absurd owes
