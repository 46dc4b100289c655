-- What a watcher is owed of an entry, seen through every call. A view stands for all that matters of a station to one
-- watcher and one entry: it is read off the entry's MMD and the watcher's word, and each call changes it by a rule that
-- knows nothing of a station. The sort of view, and what reads and events do to it, are its owner's: a latching bit's,
-- and a counter's.
use Rattle.std.proofs.Common.{◌≡◌, ℕ, zero, suc, ◌≤◌, Bool, true, false, List, [], ◌∷◌, map, set, Some, None, Option, sym, refl, ap, ◌∙◌, subst, arith}
use Rattle.std.proofs.lemmas.Bool.Decides.{nat_tests}
use Rattle.std.specs.List.{slice_get}
use Rattle.std.specs.Option.{option_map}
use Rattle.frame.proofs.Addresses.{one_address}
use Rattle.bank.specs.Slots.{SlotMeaning}
use Rattle.bus.specs.Places.{Place, no_port, no_device, found, place, on_found}
use Rattle.bus.proofs.Places.{found_keeps}
use Rattle.mmd.specs.Events.{after_read, after_write, after_line, after_count, after_finish, after_reset}
use Rattle.mmd.specs.Invariant.{Keeps}
use Rattle.mmd.specs.Meaning.{Meaning}
use Rattle.call.specs.declared.call.Request.{Request}
use Rattle.call.specs.declared.call.Request.TheVariants.{Line, Count as CountRequest}
use Rattle.watch_list.specs.Entries.{address_of, is_of, fed_by, names}
use Rattle.watch_list.specs.Lists.{WellListed}
use Rattle.watch_list.specs.Watches.{entry_of, after_look, taken_in}
use Rattle.watch_list.specs.declared.entry.Entry.{Entry}
use Rattle.watch_list.specs.declared.entry.Entry.TheVariants.{Latch, Count}
use Rattle.watch_list.specs.declared.watch.Watched.{Watched}
use Rattle.watch_list.proofs.Watches.{entry_of_taken_in, entry_of_after_look}
use Rattle.promise.specs.Rules.{State, entry_read, first_word, second_word, more_frames, entry_frames, place_of, took, took_nth, took_at, looked, looked_nth}
use Rattle.promise.proofs.Lists.{nth_map, nth_set_same, nth_set_other}
use Rattle.promise.proofs.EntryReads.{SlotsKeep, after_entry, place_entry_read, place_entry_read_elsewhere, entry_read_keeps}

pub record Viewing (entry : Entry) (watcher : ℕ) : Type 1 where
  pub View : Type 0
  -- how the view is read off the entry's MMD and its words
  pub Shows : Meaning → View → Type 0
  pub KeepsOwed : Watched → View → Type 0
  -- what reading the entry, a look of the watcher after that, and the events do to it
  pub read : View → View
  pub emptied : View → View
  pub asked : Request → View → View
  -- the laws: of the MMD
  pub shows_entry_read : (m : Meaning) (v : View) → Keeps m → Shows m v → Shows (after_entry entry m) (read v)
  pub shows_other_read : (m : Meaning) (v : View) (r : ℕ) → (fed_by entry ≡ r → ⊥) → Shows m v → Shows (after_read m r) v
  pub shows_write : (m : Meaning) (v : View) (r word : ℕ) → Shows m v → Shows (after_write m r word) v
  pub shows_line : (m : Meaning) (v : View) (n : ℕ) (up : Bool) → n ≤ 31 → Shows m v → Shows (after_line m n up) (asked (Line n up) v)
  pub shows_count : (m : Meaning) (v : View) (k amount : ℕ) → Shows m v → Shows (after_count m k amount) (asked (CountRequest k amount) v)
  pub shows_finish : (m : Meaning) (v : View) (r b : ℕ) → Shows m v → Shows (after_finish m r b) v
  pub shows_reset : (m : Meaning) (v : View) → Shows m (read v) → Shows (after_reset m) (read v)
  pub shows_emptied : (m : Meaning) (v : View) → Shows m v → Shows m (emptied v)
  -- and of the words
  pub owed_read : (m : Meaning) (x : Watched) (v : View) → Keeps m → entry_of x ≡ entry → Shows m v → KeepsOwed x v
      → KeepsOwed (taken_in (first_word m entry) (second_word m entry) x) (read v)
  pub owed_look : (x : Watched) (v : View) → KeepsOwed x v → KeepsOwed (after_look watcher x) (emptied v)
  pub owed_other_look : (x : Watched) (v : View) (w : ℕ) → (watcher ≡ w → ⊥) → KeepsOwed x v → KeepsOwed (after_look w x) v
  pub owed_asked : (x : Watched) (v : View) (q : Request) → KeepsOwed x v → KeepsOwed x (asked q v)

-- a state whose entries are these, in which the entry's MMD and words show a view
pub record Sees (entries : List Entry) (entry : Entry) (i watcher : ℕ) (viewing : Viewing entry watcher) (m : State) (v : viewing.View) : Type 0 where
  pub mmd : Meaning
  pub kept : Watched
  pub at_place : place_of entry m.slots ≡ found mmd
  pub in_list : slice_get m.watched i ≡ Some kept
  pub same_entries : map entry_of m.watched ≡ entries
  pub slots_keep : SlotsKeep m.slots
  pub shows : viewing.Shows mmd v
  pub owed : viewing.KeepsOwed kept v

-- ---- the entries of a state stay the same

pub map_set : (xs : List Watched) (i : ℕ) (x y : Watched) → slice_get xs i ≡ Some x → entry_of y ≡ entry_of x → map entry_of (set xs i y) ≡ map entry_of xs
map_set [] i x y here same = refl
map_set (z ∷ xs) zero x y here same = let e : z ≡ x = cc in ap (λ a. a ∷ map entry_of xs) (same ∙ sym (ap entry_of e))
map_set (z ∷ xs) (suc i) x y here same = ap (λ as_before. entry_of z ∷ as_before) (map_set xs i x y here same)

pub entry_at : (xs : List Watched) (entries : List Entry) (i : ℕ) (x : Watched) → map entry_of xs ≡ entries → slice_get xs i ≡ Some x → slice_get entries i ≡ Some (entry_of x)
entry_at xs entries i x same here =
    ap (λ es. slice_get es i) (sym same) ∙ nth_map entry_of xs i ∙ ap (option_map entry_of) here

-- ---- an entry is read

-- the state after entry j, which is x, was read at an MMD
abbrev took_found : ℕ → Entry → Watched → Meaning → State → State
took_found j e x mmd m =
    record {
      slots = entry_read e m.slots;
      frames = more_frames (entry_frames e) m.frames;
      watched = set m.watched j (taken_in (first_word mmd e) (second_word mmd e) x);
    }

took_is : (m : State) (j : ℕ) (x : Watched) (mmd : Meaning) → slice_get m.watched j ≡ Some x → place_of (entry_of x) m.slots ≡ found mmd
    → took j m ≡ took_found j (entry_of x) x mmd m
unfolding took
took_is m j x mmd here at = ap (λ o. took_nth j o m) here ∙ ap (λ p. took_at j x p m) at

pub feeds_itself : (e : Entry) → names (fed_by e) e ≡ true
feeds_itself (Latch e) = grind (arith, nat_tests)
feeds_itself (Count e) = grind (arith, nat_tests)

-- ---- one watcher and one entry of a list that is in order

module _ (entries : List Entry) (in_order : WellListed entries) (entry : Entry) (i watcher : ℕ) (listed : slice_get entries i ≡ Some entry) (viewing : Viewing entry watcher) where
  abbrev SeesHere : State → viewing.View → Type 0
  SeesHere m v = Sees entries entry i watcher viewing m v

  own_entry : (m : State) (v : viewing.View) (s : SeesHere m v) → entry_of s.kept ≡ entry
  own_entry m v s = let e = entry_at m.watched entries i s.kept s.same_entries s.in_list in cc

  mmd_keeps : (m : State) (v : viewing.View) (s : SeesHere m v) → Keeps s.mmd
  mmd_keeps m v s = found_keeps (address_of entry) m.slots s.mmd s.slots_keep s.at_place

  pub took_own : (m : State) (v : viewing.View) → SeesHere m v → SeesHere (took i m) (viewing.read v)
  took_own m v s =
      let e = own_entry m v s in
      let mmd = s.mmd in
      let x = s.kept in
      let keeps = mmd_keeps m v s in
      let at : place_of (entry_of x) m.slots ≡ found mmd = ap (λ en. place_of en m.slots) e ∙ s.at_place in
      let is : took i m ≡ took_found i entry x mmd m = took_is m i x mmd s.in_list at ∙ ap (λ en. took_found i en x mmd m) e in
      let after : SeesHere (took_found i entry x mmd m) (viewing.read v) =
      record {
        mmd = after_entry entry mmd;
        kept = taken_in (first_word mmd entry) (second_word mmd entry) x;
        at_place = place_entry_read entry m.slots ∙ ap (on_found (after_entry entry)) s.at_place;
        in_list = nth_set_same m.watched i x (taken_in (first_word mmd entry) (second_word mmd entry) x) s.in_list;
        same_entries = map_set m.watched i x _ s.in_list (entry_of_taken_in (first_word mmd entry) (second_word mmd entry) x) ∙ s.same_entries;
        slots_keep = entry_read_keeps entry m.slots s.slots_keep;
        shows = viewing.shows_entry_read mmd v keeps s.shows;
        owed = viewing.owed_read mmd x v keeps e s.shows s.owed;
      } in
      subst (λ st. SeesHere st (viewing.read v)) (sym is) after

  -- reading another entry of the same MMD reads none of this one's registers
  shows_other_entry : (e : Entry) (mmd : Meaning) (v : viewing.View) → names (fed_by entry) e ≡ false → viewing.Shows mmd v → viewing.Shows (after_entry e mmd) v
  shows_other_entry (Latch e) mmd v unnamed shows = viewing.shows_other_read mmd v e.register (λ h. grind (arith, nat_tests)) shows
  shows_other_entry (Count e) mmd v unnamed shows =
      viewing.shows_other_read (after_read mmd e.high) v e.low (λ h. grind (arith, nat_tests))
      (viewing.shows_other_read mmd v e.high (λ h. grind (arith, nat_tests)) shows)

  module _ (m : State) (v : viewing.View) (s : SeesHere m v) (j : ℕ) (apart : i ≡ j → ⊥) (x : Watched) (here : slice_get m.watched j ≡ Some x) where
    unnamed_there : is_of (address_of entry) (entry_of x) ≡ true → names (fed_by entry) (entry_of x) ≡ false
    unnamed_there same =
        in_order.apart i j entry (entry_of x) listed (entry_at m.watched entries j x s.same_entries here) apart same (fed_by entry) (feeds_itself entry)

    took_other_found : (mmd : Meaning) → place_of (entry_of x) m.slots ≡ found mmd → (same : Bool) → is_of (address_of entry) (entry_of x) ≡ same
        → SeesHere (took_found j (entry_of x) x mmd m) v
    took_other_found mmd at true same =
        let there : address_of (entry_of x) ≡ address_of entry = one_address (address_of (entry_of x)) (address_of entry) same in
        record {
          mmd = after_entry (entry_of x) s.mmd;
          kept = s.kept;
          at_place = ap (λ a. place a (entry_read (entry_of x) m.slots)) (sym there) ∙ place_entry_read (entry_of x) m.slots
              ∙ ap (on_found (after_entry (entry_of x))) (ap (λ a. place a m.slots) there ∙ s.at_place);
          in_list = nth_set_other m.watched j i _ (λ e. apart (sym e)) ∙ s.in_list;
          same_entries = map_set m.watched j x _ here (entry_of_taken_in (first_word mmd (entry_of x)) (second_word mmd (entry_of x)) x) ∙ s.same_entries;
          slots_keep = entry_read_keeps (entry_of x) m.slots s.slots_keep;
          shows = shows_other_entry (entry_of x) s.mmd v (unnamed_there same) s.shows;
          owed = s.owed;
        }
    took_other_found mmd at false other =
        record {
          mmd = s.mmd;
          kept = s.kept;
          at_place = place_entry_read_elsewhere (entry_of x) (address_of entry) m.slots other ∙ s.at_place;
          in_list = nth_set_other m.watched j i _ (λ e. apart (sym e)) ∙ s.in_list;
          same_entries = map_set m.watched j x _ here (entry_of_taken_in (first_word mmd (entry_of x)) (second_word mmd (entry_of x)) x) ∙ s.same_entries;
          slots_keep = entry_read_keeps (entry_of x) m.slots s.slots_keep;
          shows = s.shows;
          owed = s.owed;
        }

    took_other_at : (p : Place) → place_of (entry_of x) m.slots ≡ p → SeesHere (took_at j x p m) v
    took_other_at no_port at = s
    took_other_at no_device at = s
    took_other_at (found mmd) at = took_other_found mmd at (is_of (address_of entry) (entry_of x)) refl

  took_other_nth : (m : State) (v : viewing.View) → SeesHere m v → (j : ℕ) → (i ≡ j → ⊥) → (o : Option Watched) → slice_get m.watched j ≡ o → SeesHere (took_nth j o m) v
  took_other_nth m v s j apart None here = s
  took_other_nth m v s j apart (Some x) here = took_other_at m v s j apart x here (place_of (entry_of x) m.slots) refl

  pub took_other : (m : State) (v : viewing.View) → SeesHere m v → (j : ℕ) → (i ≡ j → ⊥) → SeesHere (took j m) v
  unfolding took
  took_other m v s j apart = took_other_nth m v s j apart (slice_get m.watched j) refl

  -- ---- a word is emptied

  looked_is : (m : State) (w j : ℕ) (x : Watched) → slice_get m.watched j ≡ Some x
      → looked w j m ≡ record { slots = m.slots; frames = m.frames; watched = set m.watched j (after_look w x) }
  unfolding looked
  looked_is m w j x here = ap (λ o. looked_nth w j o m) here

  -- at this entry, by any watcher w, whatever that makes of the view
  looked_here : (m : State) (v u : viewing.View) (s : SeesHere m v) (w : ℕ) → viewing.Shows s.mmd u → viewing.KeepsOwed (after_look w s.kept) u → SeesHere (looked w i m) u
  looked_here m v u s w shows owed =
      let after : SeesHere (record { slots = m.slots; frames = m.frames; watched = set m.watched i (after_look w s.kept) }) u =
      record {
        mmd = s.mmd;
        kept = after_look w s.kept;
        at_place = s.at_place;
        in_list = nth_set_same m.watched i s.kept (after_look w s.kept) s.in_list;
        same_entries = map_set m.watched i s.kept (after_look w s.kept) s.in_list (entry_of_after_look w s.kept) ∙ s.same_entries;
        slots_keep = s.slots_keep;
        shows = shows;
        owed = owed;
      } in
      subst (λ st. SeesHere st u) (sym (looked_is m w i s.kept s.in_list)) after

  pub looked_own : (m : State) (v : viewing.View) → SeesHere m v → SeesHere (looked watcher i m) (viewing.emptied v)
  looked_own m v s = looked_here m v (viewing.emptied v) s watcher (viewing.shows_emptied s.mmd v s.shows) (viewing.owed_look s.kept v s.owed)

  pub looked_by_other : (m : State) (v : viewing.View) → SeesHere m v → (w : ℕ) → (watcher ≡ w → ⊥) → SeesHere (looked w i m) v
  looked_by_other m v s w apart = looked_here m v v s w s.shows (viewing.owed_other_look s.kept v w apart s.owed)

  looked_elsewhere_nth : (m : State) (v : viewing.View) → SeesHere m v → (w j : ℕ) → (i ≡ j → ⊥) → (o : Option Watched) → slice_get m.watched j ≡ o → SeesHere (looked_nth w j o m) v
  looked_elsewhere_nth m v s w j apart None here = s
  looked_elsewhere_nth m v s w j apart (Some x) here =
      record {
        mmd = s.mmd;
        kept = s.kept;
        at_place = s.at_place;
        in_list = nth_set_other m.watched j i (after_look w x) (λ e. apart (sym e)) ∙ s.in_list;
        same_entries = map_set m.watched j x (after_look w x) here (entry_of_after_look w x) ∙ s.same_entries;
        slots_keep = s.slots_keep;
        shows = s.shows;
        owed = s.owed;
      }

  pub looked_elsewhere : (m : State) (v : viewing.View) → SeesHere m v → (w j : ℕ) → (i ≡ j → ⊥) → SeesHere (looked w j m) v
  unfolding looked
  looked_elsewhere m v s w j apart = looked_elsewhere_nth m v s w j apart (slice_get m.watched j) refl

  -- ---- a change of the slots alone

  pub slots_changed : (m : State) (v u : viewing.View) (s : SeesHere m v) (slots : List SlotMeaning) (frames : ℕ) (change : Meaning → Meaning)
      → place_of entry slots ≡ on_found change (place_of entry m.slots) → SlotsKeep slots
      → viewing.Shows (change s.mmd) u → viewing.KeepsOwed s.kept u
      → SeesHere (record { slots = slots; frames = frames; watched = m.watched }) u
  slots_changed m v u s slots frames change at keep shows owed =
      record {
        mmd = change s.mmd;
        kept = s.kept;
        at_place = at ∙ ap (on_found change) s.at_place;
        in_list = s.in_list;
        same_entries = s.same_entries;
        slots_keep = keep;
        shows = shows;
        owed = owed;
      }

  pub slots_elsewhere : (m : State) (v : viewing.View) (s : SeesHere m v) (slots : List SlotMeaning) (frames : ℕ)
      → place_of entry slots ≡ place_of entry m.slots → SlotsKeep slots
      → SeesHere (record { slots = slots; frames = frames; watched = m.watched }) v
  slots_elsewhere m v s slots frames at keep =
      record {
        mmd = s.mmd;
        kept = s.kept;
        at_place = at ∙ s.at_place;
        in_list = s.in_list;
        same_entries = s.same_entries;
        slots_keep = keep;
        shows = s.shows;
        owed = s.owed;
      }
