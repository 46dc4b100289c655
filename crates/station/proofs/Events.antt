-- An event that the bus took or refused, told by the rules.
use Rattle.std.proofs.Common.{◌≡◌, ℕ, zero, suc, true, cond, if◌then◌else◌, ◌&&◌, List, [], ◌∷◌, is_ok, Some, None, Ok, Err, Option, Result, sym, refl, ap, ◌∙◌, ap₂, arith}
use Rattle.frame.specs.declared.address.MmdAddress.{MmdAddress}
use Rattle.frame.specs.Addresses.{addressable}
use Rattle.bank.specs.Deeds.{after_at, after_deed}
use Rattle.bank.specs.Slots.{SlotMeaning}
use Rattle.bank.specs.declared.deed.Deed.{Deed}
use Rattle.bank.specs.declared.deed.Deed.TheVariants.{Event as EventDeed}
use Rattle.bus.specs.Answers.{after_found, slot_at}
use Rattle.bus.specs.Places.{Place, no_port, no_device, found, event_of, event_taken, from_mmd, mmd_at, place, place_of, worked}
use Rattle.bus.specs.declared.answer.BusRefusal.{BusRefusal}
use Rattle.bus.specs.declared.answer.BusRefusal.TheVariants.{NoPort, NoDevice, Mmd}
use Rattle.mmd.specs.declared.event.Event.{Event}
use Rattle.mmd.specs.declared.event.Event.TheVariants.{Line, Count, Finish, Reset}
use Rattle.bus.proofs.Places.{absent_unchanged}
use Rattle.mmd.specs.Events.{after_count, after_finish}
use Rattle.mmd.specs.Meaning.{Meaning}
use Rattle.mmd.specs.Refusals.{count_answer, finish_answer}
use Rattle.mmd.specs.declared.refusal.MmdRefusal.{MmdRefusal}
use Rattle.call.specs.Answers.{refusal_from}
use Rattle.call.specs.declared.answer.CallRefusal.TheVariants.{OutOfRange}
use Rattle.promise.specs.Rules.{State, evented, in_range, mmd_verdict, place_verdict, refused_by, state_under}
use Rattle.station.specs.Outcomes.{event_verdict, request_of, result_under}
use Rattle.station.proofs.Accesses.{Absent, absent_device, absent_port}

-- ---- an event that the MMD refuses changes no slot

same_at : (n : ℕ) (deed : Deed) (mmd : Meaning) → ((s : SlotMeaning) → s.mmd ≡ mmd → after_deed deed s ≡ s)
    → (slots : List SlotMeaning) → mmd_at n slots ≡ found mmd → after_at n deed slots ≡ slots
same_at n deed mmd same [] at = refl
same_at zero deed mmd same (s ∷ ss) at = let e : s.mmd ≡ mmd = cc in ap (λ (x : SlotMeaning). x ∷ ss) (same s e)
same_at (suc n) deed mmd same (s ∷ ss) at = ap (λ (xs : List SlotMeaning). s ∷ xs) (same_at n deed mmd same ss at)

worked_same : (address : MmdAddress) (deed : Deed) (mmd : Meaning) → ((s : SlotMeaning) → s.mmd ≡ mmd → after_deed deed s ≡ s)
    → (slots : List SlotMeaning) → place address slots ≡ found mmd → worked address deed slots ≡ slots
unfolding place worked
worked_same address deed mmd same slots at = by (slot_at address slots) at
  where
    by : (o : Option ℕ) → place_of address.port slots o ≡ found mmd → after_found deed slots o ≡ slots
    by None there = refl
    by (Some n) there = same_at n deed mmd same slots there

abbrev stays : MmdAddress → Event → List SlotMeaning → Type 0
stays address event slots = event_taken address event slots ≡ slots

count_refused : (address : MmdAddress) (counter amount : ℕ) (mmd : Meaning) (slots : List SlotMeaning) (e : MmdRefusal) → place address slots ≡ found mmd
    → count_answer mmd counter ≡ Err e → stays address (Count counter amount) slots
unfolding event_taken
count_refused address counter amount mmd slots e at refused =
    worked_same address (EventDeed (Count counter amount)) mmd
    (λ s is. ap (λ ok. record { address = s.address; register = s.register; mmd = if ok then after_count s.mmd counter amount else s.mmd })
    (ap (λ k. is_ok (count_answer k counter)) is ∙ ap is_ok refused))
    slots at

finish_refused : (address : MmdAddress) (register b : ℕ) (mmd : Meaning) (slots : List SlotMeaning) (e : MmdRefusal) → place address slots ≡ found mmd
    → finish_answer mmd register b ≡ Err e → stays address (Finish register b) slots
unfolding event_taken
finish_refused address register b mmd slots e at refused =
    worked_same address (EventDeed (Finish register b)) mmd
    (λ s is. ap (λ ok. record { address = s.address; register = s.register; mmd = if ok then after_finish s.mmd register b else s.mmd })
    (ap (λ k. is_ok (finish_answer k register b)) is ∙ ap is_ok refused))
    slots at

absent_event : (address : MmdAddress) (event : Event) (slots : List SlotMeaning) → Absent address slots → stays address event slots
unfolding event_taken
absent_event address event slots absent = absent_unchanged address (EventDeed event) slots absent

-- ---- a refused event: what the bus says is what the rules say

mmd_refused : (answer : Result (Unit {0}) MmdRefusal) (e : BusRefusal) → Err e ≡ from_mmd answer
    → (x : MmdRefusal) × (answer ≡ Err x) × (refused_by answer ≡ Some (refusal_from e))
mmd_refused (Ok u) e told = let z : ◌≡◌ {A = ℕ} 0 1 = cc in absurd (omega arith)
mmd_refused (Err x) e told = let same : e ≡ Mmd x = cc in (x, refl, ap (λ r. Some (refusal_from r)) (sym same))

refused_at : (address : MmdAddress) (event : Event) (slots : List SlotMeaning) (e : BusRefusal) (p : Place) → place address slots ≡ p
    → Err e ≡ event_of event p → (place_verdict (mmd_verdict (request_of event)) p ≡ Some (refusal_from e)) × stays address event slots
refused_at address event slots e no_port at told =
    let same : e ≡ NoPort = cc in (ap (λ r. Some (refusal_from r)) (sym same), absent_event address event slots (absent_port address slots at))
refused_at address event slots e no_device at told =
    let same : e ≡ NoDevice = cc in (ap (λ r. Some (refusal_from r)) (sym same), absent_event address event slots (absent_device address slots at))
refused_at address (Line number up) slots e (found mmd) at told = let z : ◌≡◌ {A = ℕ} 0 1 = cc in absurd (omega arith)
refused_at address (Count counter amount) slots e (found mmd) at told =
    let by = mmd_refused (count_answer mmd counter) e told in (by.2, count_refused address counter amount mmd slots by.0 at by.1)
refused_at address (Finish register b) slots e (found mmd) at told =
    let by = mmd_refused (finish_answer mmd register b) e told in (by.2, finish_refused address register b mmd slots by.0 at by.1)
refused_at address Reset slots e (found mmd) at told = let z : ◌≡◌ {A = ℕ} 0 1 = cc in absurd (omega arith)

pub event_refused : (address : MmdAddress) (event : Event) (m : State) (slots : List SlotMeaning) (frames : ℕ) (e : BusRefusal) → (addressable address && in_range (request_of event)) ≡ true
    → Err e ≡ event_of event (place address m.slots) → slots ≡ event_taken address event m.slots → frames ≡ m.frames
    → (Err (refusal_from e) ≡ result_under (event_verdict address event m.slots) (tt {0}))
    × (record { slots = slots; frames = frames; watched = m.watched } ≡ state_under (event_verdict address event m.slots) (evented address event m) m)
event_refused address event m slots frames e named told taken same =
    let all = refused_at address event m.slots e (place address m.slots) refl told in
    let verdict : event_verdict address event m.slots ≡ Some (refusal_from e) =
    ap (λ k. cond k (place_verdict (mmd_verdict (request_of event)) (place address m.slots)) (Some OutOfRange)) named ∙ all.0 in (
      sym (ap (λ v. result_under v (tt {0})) verdict),
      ap₂ (λ (ss : List SlotMeaning) (n : ℕ). record { slots = ss; frames = n; watched = m.watched }) (taken ∙ all.1) same
          ∙ sym (ap (λ v. state_under v (evented address event m) m) verdict),
    )
