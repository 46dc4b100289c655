-- The number of each refusal of a call, and what an answer says.
use Rattle.std.specs.Prelude.{ℕ, Bool, true, false}
use Rattle.bus.specs.declared.answer.BusRefusal.{BusRefusal}
use Rattle.bus.specs.declared.answer.BusRefusal.TheVariants.{Frame, NoPort as NoPortThere, NoDevice as NoDeviceThere, Mmd as MmdThere}
use Rattle.mmd.specs.Refusals as mmds
use Rattle.call.specs.declared.answer.Answer.{Answer}
use Rattle.call.specs.declared.answer.Answer.TheVariants.{Data, Told, Done, Refused}
use Rattle.call.specs.declared.answer.CallRefusal.{CallRefusal}
use Rattle.call.specs.declared.answer.CallRefusal.TheVariants.{OutOfRange, NoPort, NoDevice, Mmd}

abbrev pub number_of : CallRefusal → ℕ
number_of OutOfRange = 5
number_of NoPort = 3
number_of NoDevice = 4
number_of (Mmd e) = mmds.number_of e

abbrev pub refusal_from : BusRefusal → CallRefusal
refusal_from (Frame e) = OutOfRange
refusal_from NoPortThere = NoPort
refusal_from NoDeviceThere = NoDevice
refusal_from (MmdThere e) = Mmd e

-- whether a call was accepted: its answer is no refusal
abbrev pub is_accepted : Answer → Bool
is_accepted (Data word) = true
is_accepted (Told word) = true
is_accepted Done = true
is_accepted (Refused e) = false

-- the bits that an answer tells
abbrev pub value_of : Answer → ℕ
value_of (Data word) = word
value_of (Told word) = word
value_of Done = 0
value_of (Refused e) = 0
