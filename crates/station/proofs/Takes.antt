-- An entry's registers are read, and its words take the reading in.
use Rattle.std.proofs.Common.{◌≡◌, ℕ, Bool, true, false, cond, ◌&&◌, List, [], ◌∷◌, get_or, set, Some, None, Ok, Err, Result, sym, refl, ap, ◌∙◌, subst, ap₂, arith}
use Rattle.std.proofs.lemmas.List.{set-get_or}
use Rattle.std.proofs.lemmas.Option.{get_or_from_slice_get}
use Rattle.std.specs.List.{slice_get}
use Rattle.frame.specs.declared.address.MmdAddress.{MmdAddress}
use Rattle.frame.specs.Addresses.{addressable}
use Rattle.bank.specs.Slots.{SlotMeaning}
use Rattle.bus.specs.Places.{Place, no_port, no_device, found, on_found, place}
use Rattle.bus.proofs.Places.{place_register_read}
use Rattle.mmd.specs.Events.{after_read}
use Rattle.mmd.specs.Meaning.{Meaning, read_word}
use Rattle.call.specs.declared.answer.CallRefusal.{CallRefusal}
use Rattle.call.specs.declared.answer.CallRefusal.TheVariants.{OutOfRange}
use Rattle.promise.specs.Rules.{State, data_of, more_frames, place_of, place_verdict, read_by, state_under, took, took_at, took_nth}
use Rattle.watch_list.specs.Entries.{fed_by}
use Rattle.watch_list.specs.Watches.{entry_of, taken_in, told}
use Rattle.watch_list.specs.declared.entry.Entry.{Entry}
use Rattle.watch_list.specs.declared.entry.Entry.TheVariants.{Count}
use Rattle.watch_list.specs.declared.entry.CountEntry.{CountEntry}
use Rattle.watch_list.specs.declared.watch.Watched.{Watched}
use Rattle.station.specs.Named.{is_named}
use Rattle.station.specs.Outcomes.{access_verdict, result_under}
use Rattle.station.specs.Takes.{entry_verdict, registers_read, take_answer, words_at}

-- ---- the verdict at an address, by what is found there

pub verdict_found : (address : MmdAddress) (slots : List SlotMeaning) (mmd : Meaning) → addressable address ≡ true → place address slots ≡ found mmd
    → access_verdict address slots ≡ None
verdict_found address slots mmd named is =
    ap₂ (λ k p. cond (k && true) (place_verdict (λ _. None) p) (Some OutOfRange)) named is

-- what is read was found
granted_read : (register : ℕ) (named : Bool) (p : Place) (v : ℕ)
    → Ok v ≡ result_under (cond (named && true) (place_verdict (λ _. None) p) (Some OutOfRange)) (data_of register p)
    → (mmd : Meaning) × (p ≡ found mmd) × (v ≡ read_word mmd register)
granted_read register true (found mmd) v told = (mmd, refl, cc)
granted_read register true no_port v told = let z : ◌≡◌ {A = ℕ} 0 1 = cc in absurd (omega arith)
granted_read register true no_device v told = let z : ◌≡◌ {A = ℕ} 0 1 = cc in absurd (omega arith)
granted_read register false p v told = let z : ◌≡◌ {A = ℕ} 0 1 = cc in absurd (omega arith)

-- ---- a count entry: after the high half is read, the low half is too

module _ (entry : Entry) (e : CountEntry) (is : entry ≡ Count e) (named : is_named entry ≡ true) (m m₁ m₂ : State) (high : ℕ)
    (first : Ok high ≡ result_under (access_verdict e.address m.slots) (data_of e.high (place e.address m.slots)))
    (after : m₁ ≡ state_under (access_verdict e.address m.slots) (read_by e.address e.high None m) m)
    (left : m₂ ≡ state_under (access_verdict e.address m₁.slots) (read_by e.address e.low None m₁) m₁) where
  abbrev answered : Result ℕ CallRefusal → Type 0
  answered second = second ≡ result_under (access_verdict e.address m₁.slots) (data_of e.low (place e.address m₁.slots))

  low_found : (mmd : Meaning) × (place e.address m.slots ≡ found mmd) × (high ≡ read_word mmd e.high)
      × (m₁ ≡ read_by e.address e.high None m)
      × (place e.address m₁.slots ≡ found (after_read mmd e.high)) × (access_verdict e.address m₁.slots ≡ None)
  low_found =
      let address = e.address in
      let here : addressable address ≡ true = sym (ap is_named is) ∙ named in
      let was = granted_read e.high (addressable address) (place address m.slots) high first in
      let once : m₁ ≡ read_by address e.high None m =
      after ∙ ap (λ v. state_under v (read_by address e.high None m) m) (verdict_found address m.slots was.0 here was.1) in
      let again : place address m₁.slots ≡ found (after_read was.0 e.high) =
      ap (λ (s : State). place address s.slots) once ∙ place_register_read address e.high m.slots ∙ ap (on_found (λ k. after_read k e.high)) was.1 in
      (was.0, was.1, was.2, once, again, verdict_found address m₁.slots (after_read was.0 e.high) here again)

  -- the low half is not refused
  pub low_granted : (refusal : CallRefusal) → answered (Err refusal) → ⊥
  low_granted refusal told =
      let there = low_found in
      let both : Err refusal ≡ Ok (data_of e.low (place e.address m₁.slots)) = told ∙ ap (λ v. result_under v (data_of e.low (place e.address m₁.slots))) there.5 in
      let z : ◌≡◌ {A = ℕ} 0 1 = cc in omega arith

  pub both_halves : (low : ℕ) → answered (Ok low)
      → (Ok (high, low) ≡ result_under (entry_verdict entry m.slots) (words_at entry (place_of entry m.slots)))
      × (m₂ ≡ state_under (entry_verdict entry m.slots) (registers_read entry m) m)
  both_halves low told =
      let there = low_found in
      let mmd = there.0 in
      let read : Ok low ≡ Ok (read_word (after_read mmd e.high) e.low) = told ∙ ap₂ (λ v p. result_under v (data_of e.low p)) there.5 there.4 in
      let frames : more_frames 2 (more_frames 2 m.frames) ≡ more_frames 4 m.frames = omega arith in
      let twice : m₂ ≡ registers_read (Count e) m =
      left ∙ ap (λ v. state_under v (read_by e.address e.low None m₁) m₁) there.5 ∙ ap (read_by e.address e.low None) there.3
      ∙ ap (λ (n : ℕ). record { slots = (registers_read (Count e) m).slots; frames = n; watched = m.watched }) frames in
      let words : Ok (high, low) ≡ Ok (words_at (Count e) (found mmd)) = let h = there.2 in cc in
      subst (λ x. (Ok (high, low) ≡ result_under (entry_verdict x m.slots) (words_at x (place_of x m.slots))) × (m₂ ≡ state_under (entry_verdict x m.slots) (registers_read x m) m)) (sym is) (
        words ∙ sym (ap (λ p. result_under (place_verdict (λ _. None) p) (words_at (Count e) p)) there.1),
        twice ∙ sym (ap (λ p. state_under (place_verdict (λ _. None) p) (registers_read (Count e) m) m) there.1),
      )

-- ---- an entry is taken by itself

abbrev pub with_watched : List Watched → State → State
with_watched ws m = record { slots = m.slots; frames = m.frames; watched = ws }

abbrev pub with_one : Watched → State → State
with_one w m = with_watched (w ∷ []) m

module _ (m m₁ : State) (w : Watched) (entry : Entry) (is : entry ≡ entry_of w)
    (after : m₁ ≡ state_under (entry_verdict entry m.slots) (registers_read entry m) m) where
  abbrev ReadWords : Result (ℕ × ℕ) CallRefusal → Type 0
  ReadWords r = r ≡ result_under (entry_verdict entry m.slots) (words_at entry (place_of entry m.slots))

  abbrev LeftAt : Place → Type 0
  LeftAt p = m₁ ≡ state_under (place_verdict (λ _. None) p) (registers_read (entry_of w) m) m

  abbrev answer_at : Place → Result ℕ CallRefusal
  answer_at p = result_under (place_verdict (λ _. None) p) (data_of (fed_by (entry_of w)) p)

  left_is : LeftAt (place_of (entry_of w) m.slots)
  left_is = after ∙ ap (λ x. state_under (entry_verdict x m.slots) (registers_read x m) m) is

  words_are : (r : Result (ℕ × ℕ) CallRefusal) → ReadWords r
      → r ≡ result_under (entry_verdict (entry_of w) m.slots) (words_at (entry_of w) (place_of (entry_of w) m.slots))
  words_are r told = told ∙ ap (λ x. result_under (entry_verdict x m.slots) (words_at x (place_of x m.slots))) is

  refused_by_place : (e : CallRefusal) (p : Place) → LeftAt p → Err e ≡ result_under (place_verdict (λ _. None) p) (words_at (entry_of w) p)
      → (Err e ≡ answer_at p) × (with_one w m₁ ≡ took_at 0 w p (with_one w m))
  refused_by_place e no_port left told = (cc, ap (with_one w) left)
  refused_by_place e no_device left told = (cc, ap (with_one w) left)
  refused_by_place e (found mmd) left told = let z : ◌≡◌ {A = ℕ} 0 1 = cc in absurd (omega arith)

  pub take_refused : (e : CallRefusal) → ReadWords (Err e) → (Err e ≡ take_answer w m.slots) × (with_one w m₁ ≡ took 0 (with_one w m))
  unfolding took
  take_refused e told = refused_by_place e (place_of (entry_of w) m.slots) left_is (words_are (Err e) told)

  granted_by_place : (word low : ℕ) (taken : Watched) → taken ≡ taken_in word low w
      → (p : Place) → LeftAt p → Ok (word, low) ≡ result_under (place_verdict (λ _. None) p) (words_at (entry_of w) p)
      → (Ok word ≡ answer_at p) × (with_one taken m₁ ≡ took_at 0 w p (with_one w m))
  granted_by_place word low taken takes no_port left told = let z : ◌≡◌ {A = ℕ} 0 1 = cc in absurd (omega arith)
  granted_by_place word low taken takes no_device left told = let z : ◌≡◌ {A = ℕ} 0 1 = cc in absurd (omega arith)
  granted_by_place word low taken takes (found mmd) left told =
      let words : ◌≡◌ {A = ℕ × ℕ} (word, low) (words_at (entry_of w) (found mmd)) = cc in
      (ap (λ (ns : ℕ × ℕ). Ok ns.0) words, ap₂ with_one (takes ∙ ap (λ (ns : ℕ × ℕ). taken_in ns.0 ns.1 w) words) left)

  pub take_granted : (word low : ℕ) (taken : Watched) → taken ≡ taken_in word low w → ReadWords (Ok (word, low))
      → (Ok word ≡ take_answer w m.slots) × (with_one taken m₁ ≡ took 0 (with_one w m))
  unfolding took
  take_granted word low taken takes told =
      granted_by_place word low taken takes (place_of (entry_of w) m.slots) left_is (words_are (Ok (word, low)) told)

-- ---- an entry of the list is taken

pub took_is : (m : State) (i : ℕ) (w : Watched) → slice_get m.watched i ≡ Some w → took i m ≡ took_at i w (place_of (entry_of w) m.slots) m
unfolding took
took_is m i w at = ap (λ o. took_nth i o m) at

-- nothing changes where its MMD is absent
pub took_under : (m : State) (i : ℕ) (w : Watched) → slice_get m.watched i ≡ Some w → took i m ≡ state_under (entry_verdict (entry_of w) m.slots) (took i m) m
took_under m i w at = by (place_of (entry_of w) m.slots) (took_is m i w at)
  where
    by : (p : Place) → took i m ≡ took_at i w p m → took i m ≡ state_under (place_verdict (λ _. None) p) (took i m) m
    by no_port is = is
    by no_device is = is
    by (found mmd) is = refl

-- an entry is put where it stands already
set_there : {X : Type 0} (xs : List X) (i : ℕ) (x : X) → slice_get xs i ≡ Some x → set xs i x ≡ xs
set_there xs i x at = ap (set xs i) (sym (get_or_from_slice_get xs i x x at)) ∙ set-get_or xs i x

-- an entry that was taken by itself, put back into its list
pub took_in_list : (m after : State) (i : ℕ) (w taken : Watched) → slice_get m.watched i ≡ Some w
    → with_one taken after ≡ took 0 (with_one w m) → with_watched (set m.watched i taken) after ≡ took i m
unfolding took
took_in_list m after i w taken at took_it = ap put_back took_it ∙ by (place_of (entry_of w) m.slots) ∙ sym (took_is m i w at)
  where
    put_back : State → State
    put_back s = with_watched (set m.watched i (get_or s.watched 0 w)) s

    by : (p : Place) → put_back (took_at 0 w p (with_one w m)) ≡ took_at i w p m
    by no_port = ap (λ ws. with_watched ws m) (set_there m.watched i w at)
    by no_device = ap (λ ws. with_watched ws m) (set_there m.watched i w at)
    by (found mmd) = refl
