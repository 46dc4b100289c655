-- The sweep of an MMD's entries, entry by entry.
use Rattle.std.proofs.Common.{◌≡◌, ℕ, zero, suc, ◌+◌, ◌<◌, Bool, true, false, cond, length, get_or, set, Some, None, Option, sym, refl, ap, ◌∙◌, add-one, arith}
use Rattle.std.proofs.lemmas.List.{length-set, set-get_or}
use Rattle.std.proofs.lemmas.Option.{slice_get-get_or}
use Rattle.std.specs.List.{slice_get}
use Rattle.frame.proofs.Addresses.{one_address}
use Rattle.frame.specs.declared.address.MmdAddress.{MmdAddress}
use Rattle.bus.specs.Places.{Place, no_port, no_device, found, on_found, place}
use Rattle.mmd.specs.Meaning.{Meaning}
use Rattle.promise.specs.Rules.{State, entry_read, is_of_mmd, place_of, sweep_step, swept, took, took_at, took_nth}
use Rattle.promise.proofs.EntryReads.{after_entry, place_entry_read}
use Rattle.watch_list.specs.Entries.{address_of, is_of}
use Rattle.watch_list.specs.Watches.{entry_of}
use Rattle.watch_list.specs.declared.watch.Watched.{Watched}
use Rattle.station.specs.Named.{all_named}
use Rattle.station.proofs.Accesses.{Absent}
use Rattle.station.proofs.Named.{named_put}
use Rattle.station.proofs.Takes.{took_in_list, took_is, with_one, with_watched}

-- ---- the list keeps its length

pub took_length : (k : ℕ) (m : State) → length (took k m).watched ≡ length m.watched
unfolding took
took_length k m = by_entry (slice_get m.watched k)
  where
    by_place : (w : Watched) (p : Place) → length (took_at k w p m).watched ≡ length m.watched
    by_place w no_port = refl
    by_place w no_device = refl
    by_place w (found mmd) = length-set m.watched k _

    by_entry : (o : Option Watched) → length (took_nth k o m).watched ≡ length m.watched
    by_entry None = refl
    by_entry (Some w) = by_place w (place_of (entry_of w) m.slots)

swept_length : (address : MmdAddress) (k : ℕ) (m : State) → length (swept address k m).watched ≡ length m.watched
unfolding swept
swept_length address zero m = refl
swept_length address (suc k) m =
    let before = swept address k m in
    let by : (t : Bool) → length (cond t (took k before) before).watched ≡ length before.watched =
    λ t. elim t as (λ t. length (cond t (took k before) before).watched ≡ length before.watched) [ true ↦ took_length k before | false ↦ refl ] in
    by (is_of_mmd address (slice_get before.watched k)) ∙ swept_length address k m

-- an entry that is not swept yet stands in the list
pub swept_within : (address : MmdAddress) (k n len : ℕ) (m s : State) → s ≡ swept address k m → n ≡ length m.watched → k < n → len ≡ length s.watched → k < len
swept_within address k n len m s so_far all below long =
    let same = ap (λ (s : State). length s.watched) so_far ∙ swept_length address k m in omega arith

-- ---- one entry more

pub swept_none : (address : MmdAddress) (m : State) → m ≡ swept address 0 m
unfolding swept
swept_none address m = refl

module _ (address : MmdAddress) (k : ℕ) (m s : State) (d : Watched) (within : k < length s.watched)
    (so_far : s ≡ swept address k m) (named : all_named s.watched ≡ true) where
  abbrev here : Watched
  here = get_or s.watched k d

  stands : slice_get s.watched k ≡ Some here
  stands = slice_get-get_or s.watched k d within

  abbrev Swept_on : State → Type 0
  Swept_on after = (after ≡ swept address (k + 1) m) × (all_named after.watched ≡ true)

  stepped : (of_it : Bool) → is_of address (entry_of here) ≡ of_it → cond of_it (took k s) s ≡ swept address (k + 1) m
  unfolding swept
  stepped of_it tested =
      rw add-one
      (sym (ap (λ t. cond t (took k s) s) tested) ∙ sym (ap (λ o. cond (is_of_mmd address o) (took k s) s) stands) ∙ ap (sweep_step address k) so_far)

  pub swept_other : is_of address (entry_of here) ≡ false → Swept_on (with_watched (set s.watched k here) s)
  swept_other other =
      let same = set-get_or s.watched k d in
      (ap (λ ws. with_watched ws s) same ∙ stepped false other, ap all_named same ∙ named)

  pub swept_taken : (after : State) (taken : Watched) → is_of address (entry_of here) ≡ true → with_one taken after ≡ took 0 (with_one here s)
      → entry_of taken ≡ entry_of here → Swept_on (with_watched (set s.watched k taken) after)
  swept_taken after taken of_it took_it same =
      (took_in_list s after k here taken stands took_it ∙ stepped true of_it, named_put s.watched k here taken named stands same)

-- ---- where no MMD is there, nothing changes

took_absent : (m : State) (k : ℕ) (w : Watched) → slice_get m.watched k ≡ Some w → Absent (address_of (entry_of w)) m.slots → took k m ≡ m
took_absent m k w at absent = by (place_of (entry_of w) m.slots) refl (took_is m k w at)
  where
    by : (p : Place) → place_of (entry_of w) m.slots ≡ p → took k m ≡ took_at k w p m → took k m ≡ m
    by no_port is took_it = took_it
    by no_device is took_it = took_it
    by (found mmd) is took_it = absurd (absent mmd is)

pub swept_absent : (address : MmdAddress) (k : ℕ) (m : State) → Absent address m.slots → swept address k m ≡ m
unfolding swept
swept_absent address zero m absent = refl
swept_absent address (suc k) m absent = ap (sweep_step address k) (swept_absent address k m absent) ∙ by_entry (slice_get m.watched k) refl
  where
    by_test : (w : Watched) → slice_get m.watched k ≡ Some w → (t : Bool) → is_of address (entry_of w) ≡ t → cond t (took k m) m ≡ m
    by_test w at true of_it =
        let same : address_of (entry_of w) ≡ address = one_address (address_of (entry_of w)) address of_it in
        took_absent m k w at (λ mmd e. absent mmd (ap (λ a. place a m.slots) (sym same) ∙ e))
    by_test w at false of_it = refl

    by_entry : (o : Option Watched) → slice_get m.watched k ≡ o → cond (is_of_mmd address o) (took k m) m ≡ m
    by_entry None at = refl
    by_entry (Some w) at = by_test w at (is_of address (entry_of w)) refl

-- ---- an MMD that is there stays there

abbrev Found : MmdAddress → State → Type 0
Found address m = (mmd : Meaning) × (place address m.slots ≡ found mmd)

took_found : (address : MmdAddress) (k : ℕ) (m : State) (w : Watched) → slice_get m.watched k ≡ Some w → is_of address (entry_of w) ≡ true → Found address m → Found address (took k m)
took_found address k m w at of_it there =
    let e = entry_of w in
    let same : address_of e ≡ address = one_address (address_of e) address of_it in
    let here : place_of e m.slots ≡ found there.0 = ap (λ a. place a m.slots) same ∙ there.1 in
    let left = took_is m k w at ∙ ap (λ p. took_at k w p m) here in
    let slots = entry_read e m.slots in (
      after_entry e there.0,
      ap (λ (s : State). place address s.slots) left ∙ ap (λ a. place a slots) (sym same)
          ∙ place_entry_read e m.slots ∙ ap (on_found (after_entry e)) here,
    )

pub swept_found : (address : MmdAddress) (k : ℕ) (m : State) → Found address m → Found address (swept address k m)
unfolding swept
swept_found address zero m there = there
swept_found address (suc k) m there = by_entry (swept address k m) (swept_found address k m there) (slice_get (swept address k m).watched k) refl
  where
    by_test : (s : State) → Found address s → (w : Watched) → slice_get s.watched k ≡ Some w → (t : Bool) → is_of address (entry_of w) ≡ t → Found address (cond t (took k s) s)
    by_test s so_far w at true of_it = took_found address k s w at of_it so_far
    by_test s so_far w at false of_it = so_far

    by_entry : (s : State) → Found address s → (o : Option Watched) → slice_get s.watched k ≡ o → Found address (cond (is_of_mmd address o) (took k s) s)
    by_entry s so_far None at = so_far
    by_entry s so_far (Some w) at = by_test s so_far w at (is_of address (entry_of w)) refl
