-- What an address leads to, and what becomes of it: layers above the bus go by places, and not by lists of slots.
use Rattle.std.specs.Prelude.{ℕ, zero, suc, ◌+◌, ◌%◌, if◌then◌else◌, List, [], ◌∷◌, is_ok, Some, None, Ok, Err, Option, Result}
use Rattle.bank.specs.Slots.{SlotMeaning}
use Rattle.bank.specs.declared.deed.Deed.{Deed}
use Rattle.bank.specs.declared.deed.Deed.TheVariants.{Frame as FrameDeed, Event as EventDeed}
use Rattle.frame.specs.Addresses.{addressable}
use Rattle.frame.specs.declared.address.MmdAddress.{MmdAddress}
use Rattle.frame.specs.declared.frame.Operation.TheVariants.{Address, Write, Read}
use Rattle.frame.specs.declared.refusal.FrameRefusal.TheVariants.{Address as AboveThirtyOne}
use Rattle.mmd.specs.Events.{after_line, after_count, after_finish, after_reset}
use Rattle.mmd.specs.Meaning.{Meaning, read_word}
use Rattle.mmd.specs.Refusals.{count_answer, finish_answer}
use Rattle.mmd.specs.declared.event.Event.{Event}
use Rattle.mmd.specs.declared.event.Event.TheVariants.{Line, Count, Finish, Reset}
use Rattle.mmd.specs.declared.refusal.MmdRefusal.{MmdRefusal}
use Rattle.bus.specs.Answers.{after_found, port_at, slot_at}
use Rattle.bus.specs.declared.answer.BusRefusal.{BusRefusal}
use Rattle.bus.specs.declared.answer.BusRefusal.TheVariants.{Frame, NoPort, NoDevice, Mmd}

-- no slot has the port; the port is there and the device is not; or the earliest such slot's MMD
pub data Place : Type 0 where
  no_port : Place
  no_device : Place
  found : Meaning → Place

abbrev pub absent_place : Option ℕ → Place
absent_place None = no_port
absent_place (Some n) = no_device

abbrev pub mmd_at : ℕ → List SlotMeaning → Place
mmd_at n [] = no_device
mmd_at zero (s ∷ ss) = found s.mmd
mmd_at (suc n) (s ∷ ss) = mmd_at n ss

abbrev pub place_of : ℕ → List SlotMeaning → Option ℕ → Place
place_of port slots None = absent_place (port_at port slots)
place_of port slots (Some n) = mmd_at n slots

unfoldable pub place : MmdAddress → List SlotMeaning → Place
place address slots = place_of address.port slots (slot_at address slots)

-- ---- what is done at an address

-- the slots after a deed at an address; nothing changes where nothing is there
unfoldable pub worked : MmdAddress → Deed → List SlotMeaning → List SlotMeaning
worked address deed slots = after_found deed slots (slot_at address slots)

-- a register is read, or written, by an address frame and a second frame
unfoldable pub register_read : MmdAddress → ℕ → List SlotMeaning → List SlotMeaning
register_read address register slots = worked address (FrameDeed Read) (worked address (FrameDeed (Address register)) slots)

unfoldable pub register_written : MmdAddress → ℕ → ℕ → List SlotMeaning → List SlotMeaning
register_written address register word slots = worked address (FrameDeed (Write word)) (worked address (FrameDeed (Address register)) slots)

unfoldable pub event_taken : MmdAddress → Event → List SlotMeaning → List SlotMeaning
event_taken address event slots = worked address (EventDeed event) slots

-- ---- what is answered at a place

abbrev pub read_of : ℕ → Place → Result ℕ BusRefusal
read_of register no_port = Err NoPort
read_of register no_device = Err NoDevice
read_of register (found m) = Ok (read_word m register)

abbrev pub write_of : Place → Result (Unit {0}) BusRefusal
write_of no_port = Err NoPort
write_of no_device = Err NoDevice
write_of (found m) = Ok tt

abbrev pub from_mmd : Result (Unit {0}) MmdRefusal → Result (Unit {0}) BusRefusal
from_mmd (Ok u) = Ok tt
from_mmd (Err e) = Err (Mmd e)

-- what an MMD answers to an event, and what the event does to it
abbrev pub event_answer : Event → Meaning → Result (Unit {0}) BusRefusal
event_answer (Line number up) m = Ok tt
event_answer (Count counter amount) m = from_mmd (count_answer m counter)
event_answer (Finish register b) m = from_mmd (finish_answer m register b)
event_answer Reset m = Ok tt

abbrev pub event_change : Event → Meaning → Meaning
event_change (Line number up) m = after_line m number up
event_change (Count counter amount) m = after_count m counter amount
event_change (Finish register b) m = after_finish m register b
event_change Reset m = after_reset m

abbrev pub event_of : Event → Place → Result (Unit {0}) BusRefusal
event_of event no_port = Err NoPort
event_of event no_device = Err NoDevice
event_of event (found m) = event_answer event m

-- a change of the MMD at a place, where one is found
abbrev pub on_found : (Meaning → Meaning) → Place → Place
on_found f no_port = no_port
on_found f no_device = no_device
on_found f (found m) = found (f m)

-- the MMD after an event: a refused one changes nothing
abbrev pub after_event : Event → Meaning → Meaning
after_event event m = if is_ok (event_answer event m) then event_change event m else m

-- ---- register access by two frames

abbrev pub accessed : {A : Type 0} → MmdAddress → Result A BusRefusal → Result A BusRefusal
accessed address answer = if addressable address then answer else Err (Frame AboveThirtyOne)

-- two frames more where the access was not refused
abbrev pub frames_accessed : {A : Type 0} → ℕ → Result A BusRefusal → ℕ
frames_accessed count answer = (count + (if is_ok answer then 2 else 0)) % 65536
