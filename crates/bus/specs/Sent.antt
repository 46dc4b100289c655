-- What one frame of a register access answers: the data of a read, none where it is taken, or the refusal.
use Rattle.std.specs.Prelude.{ℕ, if◌then◌else◌, List, Option, Result}
use Rattle.bank.specs.Slots.{SlotMeaning}
use Rattle.bank.specs.declared.deed.Deed.TheVariants.{Frame as FrameDeed}
use Rattle.frame.specs.Addresses.{addressable}
use Rattle.frame.specs.declared.address.MmdAddress.{MmdAddress}
use Rattle.frame.specs.declared.frame.Operation.{Operation}
use Rattle.bus.specs.Answers.{done_there}
use Rattle.bus.specs.Places.{accessed, worked}
use Rattle.bus.specs.declared.answer.BusRefusal.{BusRefusal}

-- the frame of this operation, built and sent
unfoldable pub sent : MmdAddress → Operation → List SlotMeaning → Result (Option ℕ) BusRefusal
sent address operation slots = accessed address (done_there address (FrameDeed operation) slots)

-- the slots after it
unfoldable pub after_sent : MmdAddress → Operation → List SlotMeaning → List SlotMeaning
after_sent address operation slots = if addressable address then worked address (FrameDeed operation) slots else slots
