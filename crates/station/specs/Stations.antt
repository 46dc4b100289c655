-- What a station means to the rules: the slots of its bank, the frames of its bus, and the entries with their words.
use Rattle.std.specs.Prelude.{List, vec_items}
use Rattle.bank.specs.Slots.{SlotMeaning}
use Rattle.promise.specs.Rules.{State}
use Rattle.bus.specs.declared.bus.Bus.{Bus}
use Rattle.watch_list.specs.declared.watch.Watched.{Watched}
use Rattle.station.specs.declared.station.Station.{Station}

abbrev pub state_of : {B : Type 0} → (B → List SlotMeaning) → Station B → State
state_of slots s = record { slots = slots s.bus.bank; frames = s.bus.frames; watched = vec_items s.watched }

-- the same of a bus and of entries that stand beside it: some, one alone, or none
abbrev pub state_over : {B : Type 0} → (B → List SlotMeaning) → Bus B → List Watched → State
state_over slots bus watched = record { slots = slots bus.bank; frames = bus.frames; watched = watched }
