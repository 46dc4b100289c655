-- What a slot of the code means.
use Rattle.mmd.specs.Meaning.{Meaning}
use Rattle.bank.specs.Slots.{SlotMeaning}
use Rattle.bank.specs.declared.slot.Slot.{Slot}

abbrev pub slot_meaning : {M : Type 0} → (M → Meaning) → Slot M → SlotMeaning
slot_meaning meaning s = record { address = s.address; register = s.register; mmd = meaning s.mmd }
