-- The laws by address: what is done at one changes the MMD there alone, as said, and leaves every other place.
use Rattle.std.proofs.Common.{◌≡◌, ℕ, false, if◌then◌else◌, List, map, is_ok, Some, None, Ok, Err, Option, Result, sym, refl, ap, ◌∙◌, arith}
use Rattle.std.specs.List.{AllByRecursion}
use Rattle.bank.specs.Deeds.{after_deed}
use Rattle.bank.specs.Slots.{SlotMeaning}
use Rattle.bank.specs.declared.deed.Deed.{Deed}
use Rattle.bank.specs.declared.deed.Deed.TheVariants.{Frame, Event as EventDeed}
use Rattle.frame.specs.Addresses.{same_address}
use Rattle.frame.specs.declared.address.MmdAddress.{MmdAddress}
use Rattle.frame.specs.declared.frame.Operation.TheVariants.{Address, Write, Read}
use Rattle.mmd.specs.Events.{after_count, after_finish, after_read, after_write}
use Rattle.mmd.specs.Invariant.{Keeps}
use Rattle.mmd.specs.Meaning.{Meaning}
use Rattle.mmd.specs.Refusals.{count_answer, finish_answer}
use Rattle.mmd.specs.declared.event.Event.{Event}
use Rattle.mmd.specs.declared.event.Event.TheVariants.{Line, Count, Finish, Reset}
use Rattle.mmd.specs.declared.refusal.MmdRefusal.{MmdRefusal}
use Rattle.bus.specs.Answers.{after_found, slot_at}
use Rattle.bus.specs.Places.{found, absent_place, after_event, event_taken, from_mmd, on_found, place, place_of, register_read, register_written, worked}
use Rattle.bus.proofs.Found.{address_in, after_at_addresses, after_at_keeps, found_of_keeps, found_within, mmd_after, mmd_after_two, mmd_at_other, port_after, slot_at_after, slots_apart, stands}

-- ---- at the address

absent_stays : (change : Meaning → Meaning) (port : Option ℕ) → absent_place port ≡ on_found change (absent_place port)
absent_stays change None = refl
absent_stays change (Some n) = refl

place_of_worked : (deed : Deed) (change : Meaning → Meaning) → ((s : SlotMeaning) → (after_deed deed s).mmd ≡ change s.mmd)
    → (port : ℕ) (slots : List SlotMeaning) (at : Option ℕ) → place_of port (after_found deed slots at) at ≡ on_found change (place_of port slots at)
place_of_worked deed change does port slots None = absent_stays change _
place_of_worked deed change does port slots (Some n) = mmd_after deed change does n slots

-- what a deed does to the MMD of any slot, it does at the address
pub place_worked : (address : MmdAddress) (deed : Deed) (change : Meaning → Meaning) → ((s : SlotMeaning) → (after_deed deed s).mmd ≡ change s.mmd)
    → (slots : List SlotMeaning) → place address (worked address deed slots) ≡ on_found change (place address slots)
unfolding place worked
place_worked address deed change does slots =
    let at = slot_at address slots in
    ap (place_of address.port (after_found deed slots at)) (slot_at_after deed address slots at) ∙ place_of_worked deed change does address.port slots at

place_of_two : (d e : Deed) (change : Meaning → Meaning) → ((s : SlotMeaning) → (after_deed e (after_deed d s)).mmd ≡ change s.mmd)
    → (port : ℕ) (slots : List SlotMeaning) (at : Option ℕ)
    → place_of port (after_found e (after_found d slots at) at) at ≡ on_found change (place_of port slots at)
place_of_two d e change does port slots None = absent_stays change _
place_of_two d e change does port slots (Some n) = mmd_after_two d e change does n slots

-- and so do two deeds, one after the other
place_worked_two : (address : MmdAddress) (d e : Deed) (change : Meaning → Meaning) → ((s : SlotMeaning) → (after_deed e (after_deed d s)).mmd ≡ change s.mmd)
    → (slots : List SlotMeaning) → place address (worked address e (worked address d slots)) ≡ on_found change (place address slots)
unfolding place worked
place_worked_two address d e change does slots =
    let at = slot_at address slots in
    let once = after_found d slots at in
    let again : slot_at address once ≡ at = slot_at_after d address slots at in
    ap (place_of address.port (after_found e once (slot_at address once))) (slot_at_after e address once (slot_at address once))
    ∙ ap (λ k. place_of address.port (after_found e once k) k) again
    ∙ place_of_two d e change does address.port slots at

pub place_register_read : (address : MmdAddress) (register : ℕ) (slots : List SlotMeaning)
    → place address (register_read address register slots) ≡ on_found (λ m. after_read m register) (place address slots)
unfolding register_read
place_register_read address register slots =
    place_worked_two address (Frame (Address register)) (Frame Read) (λ m. after_read m register) (λ s. refl) slots

pub place_register_written : (address : MmdAddress) (register word : ℕ) (slots : List SlotMeaning)
    → place address (register_written address register word slots) ≡ on_found (λ m. after_write m register word) (place address slots)
unfolding register_written
place_register_written address register word slots =
    place_worked_two address (Frame (Address register)) (Frame (Write word)) (λ m. after_write m register word) (λ s. refl) slots

refusal_passes : (answer : Result (Unit {0}) MmdRefusal) → is_ok answer ≡ is_ok (from_mmd answer)
refusal_passes (Ok u) = refl
refusal_passes (Err e) = refl

event_does : (event : Event) (s : SlotMeaning) → (after_deed (EventDeed event) s).mmd ≡ after_event event s.mmd
event_does (Line number up) s = refl
event_does (Count counter amount) s =
    ap (λ ok. if ok then (after_count s.mmd counter amount) else s.mmd) (refusal_passes (count_answer s.mmd counter))
event_does (Finish register b) s =
    ap (λ ok. if ok then (after_finish s.mmd register b) else s.mmd) (refusal_passes (finish_answer s.mmd register b))
event_does Reset s = refl

pub place_event_taken : (address : MmdAddress) (event : Event) (slots : List SlotMeaning)
    → place address (event_taken address event slots) ≡ on_found (after_event event) (place address slots)
unfolding event_taken
place_event_taken address event slots =
    place_worked address (EventDeed event) (after_event event) (event_does event) slots

-- ---- at every other address

elsewhere : (deed : Deed) (p : ℕ) (slots : List SlotMeaning) (here there : Option ℕ) → ((n : ℕ) → here ≡ Some n → there ≡ Some n → ⊥)
    → place_of p (after_found deed slots here) there ≡ place_of p slots there
elsewhere deed p slots here None apart = ap absent_place (port_after deed p slots here)
elsewhere deed p slots None (Some m) apart = refl
elsewhere deed p slots (Some n) (Some m) apart = mmd_at_other deed m n (λ e. apart m (ap Some (sym e)) refl) slots

pub place_worked_elsewhere : (address : MmdAddress) (deed : Deed) (p : MmdAddress) (slots : List SlotMeaning) → same_address address p ≡ false
    → place p (worked address deed slots) ≡ place p slots
unfolding place worked
place_worked_elsewhere address deed p slots other =
    let here = slot_at address slots in
    ap (place_of p.port (after_found deed slots here)) (slot_at_after deed p slots here)
    ∙ elsewhere deed p.port slots here (slot_at p slots) (slots_apart address p slots other)

pub place_register_read_elsewhere : (address : MmdAddress) (register : ℕ) (p : MmdAddress) (slots : List SlotMeaning) → same_address address p ≡ false
    → place p (register_read address register slots) ≡ place p slots
unfolding register_read
place_register_read_elsewhere address register p slots other =
    place_worked_elsewhere address (Frame Read) p (worked address (Frame (Address register)) slots) other
    ∙ place_worked_elsewhere address (Frame (Address register)) p slots other

pub place_register_written_elsewhere : (address : MmdAddress) (register word : ℕ) (p : MmdAddress) (slots : List SlotMeaning) → same_address address p ≡ false
    → place p (register_written address register word slots) ≡ place p slots
unfolding register_written
place_register_written_elsewhere address register word p slots other =
    place_worked_elsewhere address (Frame (Write word)) p (worked address (Frame (Address register)) slots) other
    ∙ place_worked_elsewhere address (Frame (Address register)) p slots other

pub place_event_taken_elsewhere : (address : MmdAddress) (event : Event) (p : MmdAddress) (slots : List SlotMeaning) → same_address address p ≡ false
    → place p (event_taken address event slots) ≡ place p slots
unfolding event_taken
place_event_taken_elsewhere address event p slots other = place_worked_elsewhere address (EventDeed event) p slots other

-- ---- what every MMD keeps

absent_is_no_mmd : (port : Option ℕ) (m : Meaning) → absent_place port ≡ found m → ⊥
absent_is_no_mmd None m e = let z : ◌≡◌ {A = ℕ} 0 1 = cc in omega arith
absent_is_no_mmd (Some n) m e = let z : ◌≡◌ {A = ℕ} 0 1 = cc in omega arith

place_of_keeps : (port : ℕ) (slots : List SlotMeaning) (at : Option ℕ) (m : Meaning) → AllByRecursion (λ s. Keeps s.mmd) slots → place_of port slots at ≡ found m → Keeps m
place_of_keeps port slots None m keeps e = absurd (absent_is_no_mmd _ m e)
place_of_keeps port slots (Some n) m keeps e = found_of_keeps n slots m keeps e

pub found_keeps : (address : MmdAddress) (slots : List SlotMeaning) (m : Meaning) → AllByRecursion (λ s. Keeps s.mmd) slots → place address slots ≡ found m → Keeps m
unfolding place
found_keeps address slots m keeps e = place_of_keeps address.port slots (slot_at address slots) m keeps e

after_found_keeps : (deed : Deed) (slots : List SlotMeaning) (at : Option ℕ) → AllByRecursion (λ s. Keeps s.mmd) slots → AllByRecursion (λ s. Keeps s.mmd) (after_found deed slots at)
after_found_keeps deed slots None keeps = keeps
after_found_keeps deed slots (Some n) keeps = after_at_keeps n deed slots keeps

pub worked_keeps : (address : MmdAddress) (deed : Deed) (slots : List SlotMeaning) → AllByRecursion (λ s. Keeps s.mmd) slots → AllByRecursion (λ s. Keeps s.mmd) (worked address deed slots)
unfolding worked
worked_keeps address deed slots keeps = after_found_keeps deed slots (slot_at address slots) keeps

pub register_read_keeps : (address : MmdAddress) (register : ℕ) (slots : List SlotMeaning) → AllByRecursion (λ s. Keeps s.mmd) slots → AllByRecursion (λ s. Keeps s.mmd) (register_read address register slots)
unfolding register_read
register_read_keeps address register slots keeps =
    worked_keeps address (Frame Read) (worked address (Frame (Address register)) slots) (worked_keeps address (Frame (Address register)) slots keeps)

pub register_written_keeps : (address : MmdAddress) (register word : ℕ) (slots : List SlotMeaning) → AllByRecursion (λ s. Keeps s.mmd) slots → AllByRecursion (λ s. Keeps s.mmd) (register_written address register word slots)
unfolding register_written
register_written_keeps address register word slots keeps =
    worked_keeps address (Frame (Write word)) (worked address (Frame (Address register)) slots) (worked_keeps address (Frame (Address register)) slots keeps)

pub event_taken_keeps : (address : MmdAddress) (event : Event) (slots : List SlotMeaning) → AllByRecursion (λ s. Keeps s.mmd) slots → AllByRecursion (λ s. Keeps s.mmd) (event_taken address event slots)
unfolding event_taken
event_taken_keeps address event slots keeps = worked_keeps address (EventDeed event) slots keeps

-- ---- the addresses of a bank never change

after_found_addresses : (deed : Deed) (slots : List SlotMeaning) (at : Option ℕ)
    → map address_in (after_found deed slots at) ≡ map address_in slots
after_found_addresses deed slots None = refl
after_found_addresses deed slots (Some n) = after_at_addresses n deed slots

pub worked_addresses : (address : MmdAddress) (deed : Deed) (slots : List SlotMeaning)
    → map address_in (worked address deed slots) ≡ map address_in slots
unfolding worked
worked_addresses address deed slots = after_found_addresses deed slots (slot_at address slots)

-- ---- where no MMD is found, nothing changes

unchanged_at : (deed : Deed) (address : MmdAddress) (slots : List SlotMeaning) (at : Option ℕ) → slot_at address slots ≡ at
    → ((m : Meaning) → place_of address.port slots at ≡ found m → ⊥) → after_found deed slots at ≡ slots
unchanged_at deed address slots None is absent = refl
unchanged_at deed address slots (Some n) is absent =
    let there = stands n slots (found_within address n slots is) in
    absurd (absent there.0.mmd there.1.0)

pub absent_unchanged : (address : MmdAddress) (deed : Deed) (slots : List SlotMeaning) → ((m : Meaning) → place address slots ≡ found m → ⊥)
    → worked address deed slots ≡ slots
unfolding place worked
absent_unchanged address deed slots absent = unchanged_at deed address slots (slot_at address slots) refl absent
