-- A call's result and what it left, as the rules have them.
use Rattle.std.proofs.Common.{◌≡◌, ℕ, ◌<◌, true, false, cond, ◌&&◌, List, [], length, set, Some, None, Err, Option, Result, sym, refl, ap, ◌∙◌, ap₂, arith}
use Rattle.std.proofs.lemmas.Bool.Decides.{nat_tests}
use Rattle.std.specs.List.{slice_get}
use Rattle.frame.proofs.Addresses.{one_address}
use Rattle.frame.specs.declared.address.MmdAddress.{MmdAddress}
use Rattle.frame.specs.Addresses.{addressable}
use Rattle.bank.specs.Slots.{SlotMeaning}
use Rattle.bus.specs.Places.{Place, no_port, no_device, found, accessed, frames_accessed, place, register_written, write_of}
use Rattle.bus.specs.declared.answer.BusRefusal.{BusRefusal}
use Rattle.mmd.specs.declared.event.Event.{Event}
use Rattle.mmd.specs.declared.event.Event.TheVariants.{Reset as ResetEvent}
use Rattle.mmd.specs.Meaning.{Meaning}
use Rattle.call.specs.declared.answer.Answer.TheVariants.{Data, Told, Done}
use Rattle.call.specs.declared.answer.CallRefusal.{CallRefusal}
use Rattle.call.specs.declared.answer.CallRefusal.TheVariants.{NoDevice, NoPort, OutOfRange}
use Rattle.call.specs.declared.call.Call.{Call}
use Rattle.call.specs.declared.call.Call.TheVariants.{At}
use Rattle.call.specs.declared.call.Request.TheVariants.{Read, Write, Reset}
use Rattle.promise.specs.Rules.{State, admitted, after_call, answer_of, answer_under, data_of, evented, hearing, hears, place_of, place_verdict, read_by, reply, state_under, swept, took, verdict}
use Rattle.watch_list.specs.Entries.{address_of, fed_by}
use Rattle.watch_list.specs.Watches.{entry_of}
use Rattle.watch_list.specs.declared.watch.Watched.{Watched}
use Rattle.station.specs.Named.{all_named}
use Rattle.station.specs.Outcomes.{access_verdict, data_as, done_as, event_verdict, request_of, result_under, told_as}
use Rattle.station.specs.Takes.{entry_verdict, take_answer}
use Rattle.station.proofs.Accesses.{Absent, absent_device, absent_port, absent_written, access_left, as_call, write_told}
use Rattle.station.proofs.Heard.{heard_entry}
use Rattle.station.proofs.Named.{named_nth}
use Rattle.station.proofs.Swept.{swept_absent, swept_found}
use Rattle.station.proofs.Takes.{took_in_list, took_under, verdict_found, with_one, with_watched}

done_under : (v : Option CallRefusal) → done_as (result_under v (tt {0})) ≡ answer_under v Done
done_under None = refl
done_under (Some e) = refl

data_under : (v : Option CallRefusal) (word : ℕ) → data_as (result_under v word) ≡ answer_under v (Data word)
data_under None word = refl
data_under (Some e) word = refl

told_under : (v : Option CallRefusal) (word : ℕ) → told_as (result_under v word) ≡ answer_under v (Told word)
told_under None word = refl
told_under (Some e) word = refl

-- ---- a plain read

module _ (address : MmdAddress) (register : ℕ) (m after : State) (r : Result ℕ CallRefusal) where
  abbrev read_call : Call
  read_call = At address (Read register)

  pub read_unheard : hearing address register m.watched ≡ None
      → r ≡ result_under (access_verdict address m.slots) (data_of register (place address m.slots))
      → with_watched [] after ≡ state_under (access_verdict address m.slots) (read_by address register None (with_watched [] m)) (with_watched [] m)
      → (data_as r ≡ answer_of read_call m) × (with_watched m.watched after ≡ after_call read_call m)
  unfolding answer_of after_call verdict admitted reply
  read_unheard none told left =
      let v = access_verdict address m.slots in
      (ap data_as told ∙ data_under v (data_of register (place address m.slots)), ap (with_watched m.watched) left ∙ by v ∙ ap (λ o. state_under v (read_by address register o m) m) (sym none))
    where
      by : (v : Option CallRefusal) → with_watched m.watched (state_under v (read_by address register None (with_watched [] m)) (with_watched [] m)) ≡ state_under v (read_by address register None m) m
      by None = refl
      by (Some e) = refl

  pub read_heard : (i : ℕ) → hearing address register m.watched ≡ Some i → all_named m.watched ≡ true
      → (w taken : Watched) → slice_get m.watched i ≡ Some w → r ≡ take_answer w m.slots → with_one taken after ≡ took 0 (with_one w m)
      → (data_as r ≡ answer_of read_call m) × (with_watched (set m.watched i taken) after ≡ after_call read_call m)
  unfolding answer_of after_call verdict admitted reply
  read_heard i heard named w taken at told left =
      let entry = heard_entry address register i m.watched heard in
      let own : entry.0 ≡ w = let e : Some entry.0 ≡ Some w = sym entry.1 ∙ at in cc in
      let hears_it : hears address register w ≡ true = ap (hears address register) (sym own) ∙ entry.2 in
      let one : address_of (entry_of w) ≡ address = one_address (address_of (entry_of w)) address (grind (arith, nat_tests)) in
      let fed : fed_by (entry_of w) ≡ register = grind (arith, nat_tests) in
      let here : addressable address ≡ true = ap addressable (sym one) ∙ named_nth m.watched i w named at in
      let there : place_of (entry_of w) m.slots ≡ place address m.slots = ap (λ a. place a m.slots) one in
      let v = access_verdict address m.slots in
      let same : entry_verdict (entry_of w) m.slots ≡ v =
      ap (place_verdict (λ _. None)) there ∙ sym (ap (λ k. cond (k && true) (place_verdict (λ _. None) (place address m.slots)) (Some OutOfRange)) here) in
      let word : data_of (fed_by (entry_of w)) (place_of (entry_of w) m.slots) ≡ data_of register (place address m.slots) = ap₂ data_of fed there in (
        ap data_as (told ∙ ap₂ result_under same word) ∙ data_under v (data_of register (place address m.slots)),
        took_in_list m after i w taken at left ∙ took_under m i w at ∙ ap₂ (λ u o. state_under u (read_by address register o m) m) same (sym heard),
      )

-- ---- a write

pub write_called : (address : MmdAddress) (register word : ℕ) (m : State) → m.frames < 65536 → (r : Result (Unit {0}) BusRefusal) (slots : List SlotMeaning) (frames : ℕ)
    → r ≡ accessed address (write_of (place address m.slots))
    → slots ≡ cond (addressable address) (register_written address register word m.slots) m.slots
    → frames ≡ frames_accessed m.frames r
    → (done_as (as_call r) ≡ answer_of (At address (Write register word)) m)
    × (record { slots = slots; frames = frames; watched = m.watched } ≡ after_call (At address (Write register word)) m)
unfolding answer_of after_call verdict admitted reply
write_called address register word m fits r slots frames answered e f =
    let told : as_call r ≡ result_under (access_verdict address m.slots) (tt {0}) = ap as_call answered ∙ write_told address m.slots in (
      ap done_as told ∙ done_under (access_verdict address m.slots),
      access_left m fits (register_written address register word m.slots) (tt {0}) address
          (absent_written address register word m.slots) r told slots frames e f,
    )

-- ---- an event: a line, a count, a finish

pub event_called : (address : MmdAddress) (event : Event) (m : State) → reply (At address (request_of event)) m ≡ Done
    → admitted (At address (request_of event)) m ≡ evented address event m
    → (r : Result (Unit {0}) CallRefusal) (after : State) → r ≡ result_under (event_verdict address event m.slots) (tt {0})
    → after ≡ state_under (event_verdict address event m.slots) (evented address event m) m
    → (done_as r ≡ answer_of (At address (request_of event)) m) × (after ≡ after_call (At address (request_of event)) m)
unfolding answer_of after_call verdict
event_called address event m done admits r after told left =
    let v = event_verdict address event m.slots in
    (ap done_as told ∙ done_under v ∙ ap (answer_under v) (sym done), left ∙ ap (λ s. state_under v s m) (sym admits))

-- ---- a reset

module _ (address : MmdAddress) (m : State) where
  abbrev reset_call : Call
  reset_call = At address Reset

  pub reset_unnamed : addressable address ≡ false → (done_as (Err OutOfRange) ≡ answer_of reset_call m) × (m ≡ after_call reset_call m)
  unfolding answer_of after_call verdict
  reset_unnamed out =
      let is : access_verdict address m.slots ≡ Some OutOfRange =
      ap (λ k. cond (k && true) (place_verdict (λ _. None) (place address m.slots)) (Some OutOfRange)) out in
      (sym (ap (λ v. answer_under v (reply reset_call m)) is), sym (ap (λ v. state_under v (admitted reset_call m) m) is))

  module _ (named : addressable address ≡ true) (s after : State) (r : Result (Unit {0}) CallRefusal)
      (Swept_all : s ≡ swept address (length m.watched) m)
      (told : r ≡ result_under (access_verdict address s.slots) (tt {0}))
      (left : after ≡ state_under (access_verdict address s.slots) (evented address ResetEvent s) s) where
    absent : (refusal : CallRefusal) → access_verdict address m.slots ≡ Some refusal → Absent address m.slots
        → (done_as r ≡ answer_of reset_call m) × (after ≡ after_call reset_call m)
    unfolding answer_of after_call verdict reply
    absent refusal is nothing =
        let same = Swept_all ∙ swept_absent address (length m.watched) m nothing in
        let v = access_verdict address m.slots in (
          ap done_as (told ∙ ap (λ (x : State). result_under (access_verdict address x.slots) (tt {0})) same) ∙ done_under v,
          left ∙ ap (λ (x : State). state_under (access_verdict address x.slots) (evented address ResetEvent x) x) same
              ∙ ap (λ u. state_under u (evented address ResetEvent m) m) is ∙ sym (ap (λ u. state_under u (admitted reset_call m) m) is),
        )

    there : (mmd : Meaning) → place address m.slots ≡ found mmd → (done_as r ≡ answer_of reset_call m) × (after ≡ after_call reset_call m)
    unfolding answer_of after_call verdict reply admitted
    there mmd at =
        let still = swept_found address (length m.watched) m (mmd, at) in
        let at_swept = ap (λ (x : State). place address x.slots) Swept_all ∙ still.1 in
        let before = verdict_found address m.slots mmd named at in
        let later = verdict_found address s.slots still.0 named at_swept in (
          ap done_as (told ∙ ap (λ u. result_under u (tt {0})) later) ∙ sym (ap (λ u. answer_under u Done) before),
          left ∙ ap (λ u. state_under u (evented address ResetEvent s) s) later ∙ ap (evented address ResetEvent) Swept_all
              ∙ sym (ap (λ u. state_under u (evented address ResetEvent (swept address (length m.watched) m)) m) before),
        )

    pub reset_called : (done_as r ≡ answer_of reset_call m) × (after ≡ after_call reset_call m)
    reset_called = by (place address m.slots) refl
      where
        verdict_at : (p : Place) → place address m.slots ≡ p → access_verdict address m.slots ≡ place_verdict (λ _. None) p
        verdict_at p at = ap₂ (λ k p. cond (k && true) (place_verdict (λ _. None) p) (Some OutOfRange)) named at

        by : (p : Place) → place address m.slots ≡ p → (done_as r ≡ answer_of reset_call m) × (after ≡ after_call reset_call m)
        by no_port at = absent NoPort (verdict_at no_port at) (absent_port address m.slots at)
        by no_device at = absent NoDevice (verdict_at no_device at) (absent_device address m.slots at)
        by (found mmd) at = there mmd at
