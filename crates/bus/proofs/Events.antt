-- An event at an address is answered by the MMD that the place has.
use Rattle.std.proofs.Common.{◌≡◌, ℕ, List, Some, None, Ok, Err, Option, Result, sym, refl, ap, ◌∙◌}
use Rattle.bank.specs.Deeds.{done, taken_as}
use Rattle.bank.specs.Slots.{SlotMeaning}
use Rattle.bank.specs.declared.deed.Deed.TheVariants.{Event as EventDeed}
use Rattle.frame.specs.declared.address.MmdAddress.{MmdAddress}
use Rattle.mmd.specs.Refusals.{count_answer, finish_answer}
use Rattle.mmd.specs.declared.event.Event.{Event}
use Rattle.mmd.specs.declared.event.Event.TheVariants.{Line, Count, Finish, Reset}
use Rattle.mmd.specs.declared.refusal.MmdRefusal.{MmdRefusal}
use Rattle.bus.specs.Answers.{absence, after_found, done_told, event_at, port_at, slot_at, without_data}
use Rattle.bus.specs.Places.{absent_place, event_answer, event_of, event_taken, from_mmd, place, place_of, worked}
use Rattle.bus.proofs.Found.{found_within, stands}

told_as : (answer : Result (Unit {0}) MmdRefusal) → without_data (done_told (Some (taken_as answer))) ≡ from_mmd answer
told_as (Ok u) = refl
told_as (Err e) = refl

told_by_mmd : (event : Event) (s : SlotMeaning) → without_data (done_told (Some (done (EventDeed event) s))) ≡ event_answer event s.mmd
told_by_mmd (Line number up) s = refl
told_by_mmd (Count counter amount) s = told_as (count_answer s.mmd counter)
told_by_mmd (Finish register b) s = told_as (finish_answer s.mmd register b)
told_by_mmd Reset s = refl

absent_told : (event : Event) (port : Option ℕ) → without_data (Err (absence port)) ≡ event_of event (absent_place port)
absent_told event None = refl
absent_told event (Some n) = refl

told_where : (address : MmdAddress) (event : Event) (slots : List SlotMeaning) (at : Option ℕ) → slot_at address slots ≡ at
    → event_at address event slots at ≡ event_of event (place_of address.port slots at)
told_where address event slots None is_at = absent_told event (port_at address.port slots)
told_where address event slots (Some n) is_at =
    let slot = stands n slots (found_within address n slots is_at) in
    ap (λ d. without_data (done_told d)) (slot.1.1 (EventDeed event)) ∙ told_by_mmd event slot.0 ∙ ap (event_of event) (sym slot.1.0)

-- by slots as by places
pub told_at_place : (address : MmdAddress) (event : Event) (slots : List SlotMeaning)
    → event_at address event slots (slot_at address slots) ≡ event_of event (place address slots)
unfolding place
told_at_place address event slots = told_where address event slots (slot_at address slots) refl

pub taken_there : (address : MmdAddress) (event : Event) (slots : List SlotMeaning)
    → after_found (EventDeed event) slots (slot_at address slots) ≡ event_taken address event slots
unfolding event_taken worked
taken_there address event slots = refl
