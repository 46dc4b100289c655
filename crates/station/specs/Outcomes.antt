-- What a call's result says: its value where the rules admit it, or the refusal.
use Rattle.std.specs.Prelude.{ℕ, List, Some, None, Ok, Err, Option, Result}
use Rattle.frame.specs.declared.address.MmdAddress.{MmdAddress}
use Rattle.bank.specs.Slots.{SlotMeaning}
use Rattle.mmd.specs.declared.event.Event.{Event}
use Rattle.mmd.specs.declared.event.Event.TheVariants.{Line as LineEvent, Count as CountEvent, Finish as FinishEvent, Reset as ResetEvent}
use Rattle.call.specs.declared.answer.Answer.{Answer}
use Rattle.call.specs.declared.answer.Answer.TheVariants.{Data, Told, Done, Refused}
use Rattle.call.specs.declared.answer.CallRefusal.{CallRefusal}
use Rattle.call.specs.declared.call.Request.{Request}
use Rattle.call.specs.declared.call.Request.TheVariants.{Line, Count, Finish, Reset}
use Rattle.promise.specs.Rules.{request_verdict}

-- ---- the answer that a result is

abbrev pub told_as : Result ℕ CallRefusal → Answer
told_as (Ok word) = Told word
told_as (Err refusal) = Refused refusal

abbrev pub data_as : Result ℕ CallRefusal → Answer
data_as (Ok word) = Data word
data_as (Err refusal) = Refused refusal

abbrev pub done_as : Result (Unit {0}) CallRefusal → Answer
done_as (Ok u) = Done
done_as (Err refusal) = Refused refusal

-- ---- the result under a verdict

abbrev pub result_under : {A : Type 0} → Option CallRefusal → A → Result A CallRefusal
result_under None value = Ok value
result_under (Some refusal) value = Err refusal

-- what every request at an address is refused for: 5, 3 or 4
abbrev pub access_verdict : MmdAddress → List SlotMeaning → Option CallRefusal
access_verdict address slots = request_verdict address Reset slots

-- an event as a request, and what it is refused for: 5, 3 or 4, then 6 or 7
abbrev pub request_of : Event → Request
request_of (LineEvent number up) = Line number up
request_of (CountEvent counter amount) = Count counter amount
request_of (FinishEvent register b) = Finish register b
request_of ResetEvent = Reset

abbrev pub event_verdict : MmdAddress → Event → List SlotMeaning → Option CallRefusal
event_verdict address event slots = request_verdict address (request_of event) slots
