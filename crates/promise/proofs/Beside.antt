-- What stands beside an MMD is not seen in the answers of the calls that name it: two states that are alike at an address
-- stay alike under calls that name it, and a call that names another leaves the likeness as it was.
use Rattle.std.proofs.Common.{◌≡◌, ℕ, zero, suc, Bool, true, false, cond, ◌&&◌, eqb, List, [], ◌∷◌, map, length, set, Some, None, Option, sym, refl, ap, ◌∙◌, subst, ⊎_elim, arith}
use lib.ListN.{length-map}
use Rattle.std.proofs.lemmas.Bool.{cases_eq}
use Rattle.std.proofs.lemmas.Bool.Decides.{nat_tests}
use Rattle.std.specs.List.{slice_get}
use Rattle.std.specs.Option.{option_map}
use Rattle.frame.specs.Addresses.{same_address}
use Rattle.frame.specs.declared.address.MmdAddress.{MmdAddress}
use Rattle.frame.proofs.Addresses.{one_address}
use Rattle.bank.specs.Slots.{SlotMeaning, next_place}
use Rattle.bus.specs.Places.{Place, no_port, no_device, found, place, on_found, after_event, event_taken, register_read, register_written}
use Rattle.mmd.specs.declared.event.Event.{Event}
use Rattle.mmd.specs.declared.event.Event.TheVariants.{Line as LineEvent, Count as CountEvent, Finish as FinishEvent, Reset as ResetEvent}
use Rattle.bus.proofs.Places.{place_event_taken, place_event_taken_elsewhere, place_register_read, place_register_read_elsewhere, place_register_written, place_register_written_elsewhere}
use Rattle.mmd.specs.Events.{after_read, after_write}
use Rattle.mmd.specs.Meaning.{Meaning}
use Rattle.call.specs.declared.call.Request.{Request}
use Rattle.call.specs.declared.call.Request.TheVariants.{Read, Write, Line, Count, Finish, Reset}
use Rattle.watch_list.specs.Entries.{address_of, is_of, fed_by}
use Rattle.watch_list.specs.Watches.{entry_of, after_look, taken_in}
use Rattle.watch_list.specs.declared.entry.Entry.{Entry}
use Rattle.watch_list.specs.declared.watch.Watched.{Watched}
use Rattle.watch_list.proofs.Watches.{entry_of_taken_in, entry_of_after_look}
use Rattle.promise.specs.Logs.{names_entry}
use Rattle.promise.specs.Rules.{State, entry_read, evented, first_word, hearing, hears, is_of_mmd, looked, looked_nth, more_frames, place_of, read_by, requested, second_word, swept, took, took_at, took_nth}
use Rattle.promise.proofs.EntryReads.{after_entry, place_entry_read, place_entry_read_elsewhere}
use Rattle.promise.proofs.Lists.{nth_map, nth_set_other, nth_set_same}
use Rattle.promise.proofs.Steps.{Heard, hearing_right}
use Rattle.promise.proofs.Views.{map_set}

module _ (p : MmdAddress) where
  abbrev KeptAlike : List Watched → List Watched → Type 0
  KeptAlike ms ns = (i : ℕ) (x : Watched) → slice_get ms i ≡ Some x → is_of p (entry_of x) ≡ true → slice_get ns i ≡ Some x

  -- an entry of both is set alike
  kept_set_both : (ms ns : List Watched) → KeptAlike ms ns → (j : ℕ) (a z : Watched) → slice_get ms j ≡ Some a → slice_get ns j ≡ Some a → KeptAlike (set ms j z) (set ns j z)
  kept_set_both ms ns alike j a z m_has n_has i y at of_it =
      ⊎_elim
      (λ (e : j ≡ i).
      let here = nth_set_same ms j a z m_has in
      let there = nth_set_same ns j a z n_has in
      let is : Some z ≡ Some y = sym here ∙ ap (slice_get (set ms j z)) e ∙ at in
      ap (slice_get (set ns j z)) (sym e) ∙ there ∙ is)
      (λ (apart : j ≡ i → ⊥).
      nth_set_other ns j i z apart ∙ alike i y (sym (nth_set_other ms j i z apart) ∙ at) of_it)
      (cases_eq j i)

  -- an entry of another MMD may be set to anything of that MMD
  kept_set_left : (ms ns : List Watched) → KeptAlike ms ns → (j : ℕ) (a z : Watched) → slice_get ms j ≡ Some a → is_of p (entry_of z) ≡ false → KeptAlike (set ms j z) ns
  kept_set_left ms ns alike j a z m_has other i y at of_it =
      ⊎_elim
      (λ (e : j ≡ i).
      let here = nth_set_same ms j a z m_has in
      let is : Some z ≡ Some y = sym here ∙ ap (slice_get (set ms j z)) e ∙ at in
      let same : z ≡ y = cc in
      let both : true ≡ false = sym of_it ∙ ap (λ w. is_of p (entry_of w)) (sym same) ∙ other in
      let z : ◌≡◌ {A = ℕ} 0 1 = cc in absurd (omega arith))
      (λ (apart : j ≡ i → ⊥). alike i y (sym (nth_set_other ms j i z apart) ∙ at) of_it)
      (cases_eq j i)

-- two states that show the same at an address: its MMD, and the words of its entries
pub record Alike (p : MmdAddress) (entries : List Entry) (m n : State) : Type 0 where
  pub same_place : place p m.slots ≡ place p n.slots
  pub left_entries : map entry_of m.watched ≡ entries
  pub right_entries : map entry_of n.watched ≡ entries
  pub same_kept : KeptAlike p m.watched n.watched

module _ (p : MmdAddress) (entries : List Entry) where
  pub place_at : (e : Entry) → is_of p e ≡ true → (slots : List SlotMeaning) → place_of e slots ≡ place p slots
  place_at e of_it slots =
      let there : address_of e ≡ p = one_address (address_of e) p of_it in
      ap (λ a. place a slots) there

  -- ---- an entry of this MMD is read in both

  took_both_at : (m n : State) → Alike p entries m n → (j : ℕ) (x : Watched) → slice_get m.watched j ≡ Some x → slice_get n.watched j ≡ Some x → is_of p (entry_of x) ≡ true
      → (at : Place) → Alike p entries (took_at j x at m) (took_at j x at n)
  took_both_at m n alike j x m_has n_has of_it no_port = alike
  took_both_at m n alike j x m_has n_has of_it no_device = alike
  took_both_at m n alike j x m_has n_has of_it (found mmd) =
      let e = entry_of x in
      let y = taken_in (first_word mmd e) (second_word mmd e) x in
      let stays = entry_of_taken_in (first_word mmd e) (second_word mmd e) x in
      let after : (slots : List SlotMeaning) → place p (entry_read e slots) ≡ on_found (after_entry e) (place p slots) =
      λ slots. sym (place_at e of_it (entry_read e slots)) ∙ place_entry_read e slots ∙ ap (on_found (after_entry e)) (place_at e of_it slots) in
      record {
        same_place = after m.slots ∙ ap (on_found (after_entry e)) alike.same_place ∙ sym (after n.slots);
        left_entries = map_set m.watched j x y m_has stays ∙ alike.left_entries;
        right_entries = map_set n.watched j x y n_has stays ∙ alike.right_entries;
        same_kept = kept_set_both p m.watched n.watched alike.same_kept j x y m_has n_has;
      }

  pub took_both : (m n : State) → Alike p entries m n → (j : ℕ) (x : Watched) → slice_get m.watched j ≡ Some x → is_of p (entry_of x) ≡ true → Alike p entries (took j m) (took j n)
  unfolding took
  took_both m n alike j x m_has of_it =
      let n_has = alike.same_kept j x m_has of_it in
      let e = entry_of x in
      let at = place_of e m.slots in
      let same : place_of e n.slots ≡ at = place_at e of_it n.slots ∙ sym alike.same_place ∙ sym (place_at e of_it m.slots) in
      let left : took_nth j (slice_get m.watched j) m ≡ took_at j x at m = ap (λ o. took_nth j o m) m_has in
      let right : took_nth j (slice_get n.watched j) n ≡ took_at j x at n = ap (λ o. took_nth j o n) n_has ∙ ap (λ q. took_at j x q n) same in
      subst (λ s. Alike p entries s (took_nth j (slice_get n.watched j) n)) (sym left)
      (subst (λ s. Alike p entries (took_at j x at m) s) (sym right) (took_both_at m n alike j x m_has n_has of_it at))

  -- ---- an entry of another MMD is read in one

  took_left_at : (m n : State) → Alike p entries m n → (j : ℕ) (x : Watched) → slice_get m.watched j ≡ Some x → is_of p (entry_of x) ≡ false → (at : Place) → Alike p entries (took_at j x at m) n
  took_left_at m n alike j x m_has other no_port = alike
  took_left_at m n alike j x m_has other no_device = alike
  took_left_at m n alike j x m_has other (found mmd) =
      let e = entry_of x in
      let y = taken_in (first_word mmd e) (second_word mmd e) x in
      let stays = entry_of_taken_in (first_word mmd e) (second_word mmd e) x in
      record {
        same_place = place_entry_read_elsewhere e p m.slots other ∙ alike.same_place;
        left_entries = map_set m.watched j x y m_has stays ∙ alike.left_entries;
        right_entries = alike.right_entries;
        same_kept = kept_set_left p m.watched n.watched alike.same_kept j x y m_has (ap (is_of p) stays ∙ other);
      }

  took_left_nth : (m n : State) → Alike p entries m n → (j : ℕ) (o : Option Watched) → slice_get m.watched j ≡ o → is_of_mmd p o ≡ false → Alike p entries (took_nth j o m) n
  took_left_nth m n alike j None m_has other = alike
  took_left_nth m n alike j (Some x) m_has other = took_left_at m n alike j x m_has other (place_of (entry_of x) m.slots)

  pub took_left : (m n : State) → Alike p entries m n → (j : ℕ) → is_of_mmd p (slice_get m.watched j) ≡ false → Alike p entries (took j m) n
  unfolding took
  took_left m n alike j other = took_left_nth m n alike j (slice_get m.watched j) refl other

  -- ---- a word is emptied

  pub looked_both : (m n : State) → Alike p entries m n → (w j : ℕ) (x : Watched) → slice_get m.watched j ≡ Some x → is_of p (entry_of x) ≡ true → Alike p entries (looked w j m) (looked w j n)
  unfolding looked
  looked_both m n alike w j x m_has of_it =
      let n_has = alike.same_kept j x m_has of_it in
      subst (λ o. Alike p entries (looked_nth w j o m) (looked_nth w j (slice_get n.watched j) n)) (sym m_has)
      (subst (λ o. Alike p entries (looked_nth w j (Some x) m) (looked_nth w j o n)) (sym n_has)
      (record {
        same_place = alike.same_place;
        left_entries = map_set m.watched j x (after_look w x) m_has (entry_of_after_look w x) ∙ alike.left_entries;
        right_entries = map_set n.watched j x (after_look w x) n_has (entry_of_after_look w x) ∙ alike.right_entries;
        same_kept = kept_set_both p m.watched n.watched alike.same_kept j x (after_look w x) m_has n_has;
      }))

  looked_left_nth : (m n : State) → Alike p entries m n → (w j : ℕ) (o : Option Watched) → slice_get m.watched j ≡ o → is_of_mmd p o ≡ false → Alike p entries (looked_nth w j o m) n
  looked_left_nth m n alike w j None m_has other = alike
  looked_left_nth m n alike w j (Some x) m_has other =
      record {
        same_place = alike.same_place;
        left_entries = map_set m.watched j x (after_look w x) m_has (entry_of_after_look w x) ∙ alike.left_entries;
        right_entries = alike.right_entries;
        same_kept = kept_set_left p m.watched n.watched alike.same_kept j x (after_look w x) m_has (ap (is_of p) (entry_of_after_look w x) ∙ other);
      }

  pub looked_left : (m n : State) → Alike p entries m n → (w j : ℕ) → is_of_mmd p (slice_get m.watched j) ≡ false → Alike p entries (looked w j m) n
  unfolding looked
  looked_left m n alike w j other = looked_left_nth m n alike w j (slice_get m.watched j) refl other

  -- ---- entries by their names in the list

  named_of : (o : Option Watched) → is_of_mmd p o ≡ names_entry p (option_map entry_of o)
  named_of None = refl
  named_of (Some x) = refl

  pub listed_of : (ws : List Watched) → map entry_of ws ≡ entries → (j : ℕ) → is_of_mmd p (slice_get ws j) ≡ names_entry p (slice_get entries j)
  listed_of ws same j =
      named_of (slice_get ws j) ∙ ap (names_entry p) (sym (nth_map entry_of ws j) ∙ ap (λ es. slice_get es j) same)

  pub found_of : (o : Option Watched) → is_of_mmd p o ≡ true → (x : Watched) × (o ≡ Some x) × (is_of p (entry_of x) ≡ true)
  found_of None of_it = let z : ◌≡◌ {A = ℕ} 0 1 = cc in absurd (omega arith)
  found_of (Some x) of_it = (x, refl, of_it)

  other_of : (q : MmdAddress) → same_address q p ≡ false → (o : Option Watched) → is_of_mmd q o ≡ true → is_of_mmd p o ≡ false
  other_of q apart None of_it = refl
  other_of q apart (Some x) of_it = grind (arith, nat_tests)

  -- ---- a sweep

  swept_both : (m n : State) → Alike p entries m n → (k : ℕ) → Alike p entries (swept p k m) (swept p k n)
  unfolding swept
  swept_both m n alike zero = alike
  swept_both m n alike (suc k) =
      let before = swept_both m n alike k in
      step (swept p k m) (swept p k n) before (is_of_mmd p (slice_get (swept p k m).watched k)) (is_of_mmd p (slice_get (swept p k n).watched k)) refl
      (listed_of (swept p k n).watched before.right_entries k ∙ sym (listed_of (swept p k m).watched before.left_entries k))
    where
      step : (a b : State) → Alike p entries a b → (left right : Bool) → is_of_mmd p (slice_get a.watched k) ≡ left → right ≡ left → Alike p entries (cond left (took k a) a) (cond right (took k b) b)
      step a b alike true right at same =
          let it = found_of (slice_get a.watched k) at in
          subst (λ t. Alike p entries (took k a) (cond t (took k b) b)) (sym same) (took_both a b alike k it.0 it.1 it.2)
      step a b alike false right at same = subst (λ t. Alike p entries a (cond t (took k b) b)) (sym same) alike

  swept_left : (m n : State) → Alike p entries m n → (q : MmdAddress) → same_address q p ≡ false → (k : ℕ) → Alike p entries (swept q k m) n
  unfolding swept
  swept_left m n alike q apart zero = alike
  swept_left m n alike q apart (suc k) =
      step (swept q k m) (swept_left m n alike q apart k) (is_of_mmd q (slice_get (swept q k m).watched k)) refl
    where
      step : (a : State) → Alike p entries a n → (test : Bool) → is_of_mmd q (slice_get a.watched k) ≡ test → Alike p entries (cond test (took k a) a) n
      step a alike true at = took_left a n alike k (other_of q apart (slice_get a.watched k) at)
      step a alike false at = alike

  -- ---- a change of the slots alone

  slots_both : (m n : State) → Alike p entries m n → (change : List SlotMeaning → List SlotMeaning) (f g : ℕ) (does : Meaning → Meaning)
      → ((slots : List SlotMeaning) → place p (change slots) ≡ on_found does (place p slots))
      → Alike p entries (record { slots = change m.slots; frames = f; watched = m.watched }) (record { slots = change n.slots; frames = g; watched = n.watched })
  slots_both m n alike change f g does law =
      record {
        same_place = law m.slots ∙ ap (on_found does) alike.same_place ∙ sym (law n.slots);
        left_entries = alike.left_entries;
        right_entries = alike.right_entries;
        same_kept = alike.same_kept;
      }

  slots_left : (m n : State) → Alike p entries m n → (slots : List SlotMeaning) (f : ℕ) → place p slots ≡ place p m.slots
      → Alike p entries (record { slots = slots; frames = f; watched = m.watched }) n
  slots_left m n alike slots f same =
      record { same_place = same ∙ alike.same_place; left_entries = alike.left_entries; right_entries = alike.right_entries; same_kept = alike.same_kept }

  -- ---- which entry a register feeds goes by the list

  abbrev heard : MmdAddress → ℕ → List Entry → Option ℕ
  heard q r [] = None
  heard q r (e ∷ es) = cond (is_of q e && eqb (fed_by e) r) (Some 0) (next_place (heard q r es))

  hearing_listed : (q : MmdAddress) (r : ℕ) (ws : List Watched) → hearing q r ws ≡ heard q r (map entry_of ws)
  unfolding hearing
  hearing_listed q r [] = refl
  hearing_listed q r (w ∷ ws) = ap (λ o. cond (hears q r w) (Some 0) (next_place o)) (hearing_listed q r ws)

  same_hearing : (m n : State) → Alike p entries m n → (q : MmdAddress) (r : ℕ) → hearing q r n.watched ≡ hearing q r m.watched
  same_hearing m n alike q r =
      hearing_listed q r n.watched ∙ ap (heard q r) (alike.right_entries ∙ sym alike.left_entries) ∙ sym (hearing_listed q r m.watched)

  -- ---- requests to this MMD

  read_both : (m n : State) → Alike p entries m n → (r : ℕ) (o : Option ℕ) → Heard p r m.watched o → Alike p entries (read_by p r o m) (read_by p r o n)
  read_both m n alike r None none =
      slots_both m n alike (register_read p r) (more_frames 2 m.frames) (more_frames 2 n.frames) (λ mm. after_read mm r) (place_register_read p r)
  read_both m n alike r (Some j) some = took_both m n alike j some.0 some.1 (grind (arith, nat_tests))

  event_both : (m n : State) → Alike p entries m n → (event : Event) → Alike p entries (evented p event m) (evented p event n)
  event_both m n alike event = slots_both m n alike (event_taken p event) m.frames n.frames (after_event event) (place_event_taken p event)

  same_length : (m n : State) → Alike p entries m n → length n.watched ≡ length m.watched
  same_length m n alike =
      sym (length-map n.watched entry_of) ∙ ap length (alike.right_entries ∙ sym alike.left_entries) ∙ length-map m.watched entry_of

  pub requested_both : (m n : State) → Alike p entries m n → (q : Request) → Alike p entries (requested p q m) (requested p q n)
  requested_both m n alike (Read r) =
      subst (λ o. Alike p entries (read_by p r (hearing p r m.watched) m) (read_by p r o n)) (sym (same_hearing m n alike p r))
      (read_both m n alike r (hearing p r m.watched) (hearing_right p r m.watched))
  requested_both m n alike (Write r word) =
      slots_both m n alike (register_written p r word) (more_frames 2 m.frames) (more_frames 2 n.frames) (λ mm. after_write mm r word) (place_register_written p r word)
  requested_both m n alike (Line k up) = event_both m n alike (LineEvent k up)
  requested_both m n alike (Count k amount) = event_both m n alike (CountEvent k amount)
  requested_both m n alike (Finish r b) = event_both m n alike (FinishEvent r b)
  requested_both m n alike Reset =
      subst (λ k. Alike p entries (evented p ResetEvent (swept p (length m.watched) m)) (evented p ResetEvent (swept p k n))) (sym (same_length m n alike))
      (event_both (swept p (length m.watched) m) (swept p (length m.watched) n) (swept_both m n alike (length m.watched)) ResetEvent)

  -- ---- requests to another MMD

  module _ (m n : State) (alike : Alike p entries m n) (q : MmdAddress) (apart : same_address q p ≡ false) where
    read_left : (r : ℕ) (o : Option ℕ) → Heard q r m.watched o → Alike p entries (read_by q r o m) n
    read_left r None none = slots_left m n alike (register_read q r m.slots) (more_frames 2 m.frames) (place_register_read_elsewhere q r p m.slots apart)
    read_left r (Some j) some =
        took_left m n alike j (ap (is_of_mmd p) some.1 ∙ other_of q apart (Some some.0) (let h = some.2 in grind (arith, nat_tests)))

    event_left : (a : State) → Alike p entries a n → (event : Event) → Alike p entries (evented q event a) n
    event_left a like event = slots_left a n like (event_taken q event a.slots) a.frames (place_event_taken_elsewhere q event p a.slots apart)

    pub requested_left : (request : Request) → Alike p entries (requested q request m) n
    requested_left (Read r) = read_left r (hearing q r m.watched) (hearing_right q r m.watched)
    requested_left (Write r word) =
        slots_left m n alike (register_written q r word m.slots) (more_frames 2 m.frames) (place_register_written_elsewhere q r word p m.slots apart)
    requested_left (Line k up) = event_left m alike (LineEvent k up)
    requested_left (Count k amount) = event_left m alike (CountEvent k amount)
    requested_left (Finish r b) = event_left m alike (FinishEvent r b)
    requested_left Reset = event_left (swept q (length m.watched) m) (swept_left m n alike q apart (length m.watched)) ResetEvent
