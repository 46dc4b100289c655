-- What the bus answers to a frame word or an event, and what it leaves.
use Rattle.std.specs.Prelude.{ℕ, ◌+◌, ◌%◌, if◌then◌else◌, List, is_ok, Some, None, Ok, Err, Option, Result}
use Rattle.bank.specs.Deeds.{Done, after_at, done_at}
use Rattle.bank.specs.Searches.{is_wanted}
use Rattle.bank.specs.Slots.{SlotMeaning, earliest, numbered}
use Rattle.bank.specs.declared.deed.Deed.{Deed}
use Rattle.bank.specs.declared.deed.Deed.TheVariants.{Frame as FrameDeed, Event as EventDeed}
use Rattle.bank.specs.declared.wanted.Wanted.TheVariants.{Port as PortWanted, Mmd as MmdWanted}
use Rattle.frame.specs.Numbers as frames
use Rattle.frame.specs.Words.{split_of}
use Rattle.frame.specs.declared.address.MmdAddress.{MmdAddress}
use Rattle.frame.specs.declared.frame.Frame.{Frame}
use Rattle.frame.specs.declared.refusal.FrameRefusal.{FrameRefusal}
use Rattle.mmd.specs.Refusals as mmds
use Rattle.mmd.specs.declared.event.Event.{Event}
use Rattle.bus.specs.declared.answer.BusAnswer.{BusAnswer}
use Rattle.bus.specs.declared.answer.BusAnswer.TheVariants.{Data, Taken, Refused}
use Rattle.bus.specs.declared.answer.BusRefusal.{BusRefusal}
use Rattle.bus.specs.declared.answer.BusRefusal.TheVariants.{Frame as NoFrame, NoPort, NoDevice, Mmd}

abbrev pub number_of : BusRefusal → ℕ
number_of (NoFrame e) = frames.number_of e
number_of NoPort = 3
number_of NoDevice = 4
number_of (Mmd e) = mmds.number_of e

-- ---- where an address leads

abbrev pub port_at : ℕ → List SlotMeaning → Option ℕ
port_at port slots = numbered (earliest (is_wanted (PortWanted port)) slots)

abbrev pub slot_at : MmdAddress → List SlotMeaning → Option ℕ
slot_at address slots = numbered (earliest (is_wanted (MmdWanted address)) slots)

abbrev pub absence : Option ℕ → BusRefusal
absence None = NoPort
absence (Some n) = NoDevice

-- why there is nothing at an address: the port is not there, or the device is not
abbrev pub absent : ℕ → List SlotMeaning → BusRefusal
absent port slots = absence (port_at port slots)

-- ---- what is done there: the data of a read, none where it is taken, or why it is refused

abbrev pub done_told : Option Done → Result (Option ℕ) BusRefusal
done_told None = Ok None
done_told (Some (Ok word)) = Ok word
done_told (Some (Err e)) = Err (Mmd e)

abbrev pub done_where : MmdAddress → Deed → List SlotMeaning → Option ℕ → Result (Option ℕ) BusRefusal
done_where address deed slots None = Err (absent address.port slots)
done_where address deed slots (Some n) = done_told (done_at n deed slots)

abbrev pub done_there : MmdAddress → Deed → List SlotMeaning → Result (Option ℕ) BusRefusal
done_there address deed slots = done_where address deed slots (slot_at address slots)

abbrev pub after_found : Deed → List SlotMeaning → Option ℕ → List SlotMeaning
after_found deed slots None = slots
after_found deed slots (Some n) = after_at n deed slots

-- ---- frames

abbrev pub result_split : Result Frame FrameRefusal → List SlotMeaning → Result (Option ℕ) BusRefusal
result_split (Err e) slots = Err (NoFrame e)
result_split (Ok f) slots = done_there f.address (FrameDeed f.operation) slots

abbrev pub frame_result : ℕ → List SlotMeaning → Result (Option ℕ) BusRefusal
frame_result word slots = result_split (split_of word) slots

-- the answer that a result is
abbrev pub told : Result (Option ℕ) BusRefusal → BusAnswer
told (Ok (Some word)) = Data word
told (Ok None) = Taken
told (Err e) = Refused e

abbrev pub frame_answer : ℕ → List SlotMeaning → BusAnswer
frame_answer word slots = told (frame_result word slots)

abbrev pub after_split : Result Frame FrameRefusal → List SlotMeaning → List SlotMeaning
after_split (Err e) slots = slots
after_split (Ok f) slots = after_found (FrameDeed f.operation) slots (slot_at f.address slots)

abbrev pub after_frame : ℕ → List SlotMeaning → List SlotMeaning
after_frame word slots = after_split (split_of word) slots

-- the bus counts the frames that it does not refuse, modulo 65,536
abbrev pub frames_after : ℕ → BusAnswer → ℕ
frames_after count (Data word) = (count + 1) % 65536
frames_after count Taken = (count + 1) % 65536
frames_after count (Refused e) = count

abbrev pub frames_with : {A : Type 0} → ℕ → Result A BusRefusal → ℕ
frames_with count result = (count + (if is_ok result then 1 else 0)) % 65536

-- ---- events

abbrev pub without_data : Result (Option ℕ) BusRefusal → Result (Unit {0}) BusRefusal
without_data (Ok word) = Ok tt
without_data (Err e) = Err e

abbrev pub event_at : MmdAddress → Event → List SlotMeaning → Option ℕ → Result (Unit {0}) BusRefusal
event_at address event slots at = without_data (done_where address (EventDeed event) slots at)
