-- What reading an entry's registers does at each address.
use Rattle.std.proofs.Common.{◌≡◌, false, List, refl, ap, ◌∙◌}
use Rattle.std.specs.List.{AllByRecursion}
use Rattle.frame.specs.declared.address.MmdAddress.{MmdAddress}
use Rattle.frame.specs.Addresses.{same_address}
use Rattle.bank.specs.Slots.{SlotMeaning}
use Rattle.bus.specs.Places.{Place, no_port, no_device, found, place, on_found, register_read}
use Rattle.bus.proofs.Places.{place_register_read, place_register_read_elsewhere, register_read_keeps}
use Rattle.mmd.specs.Events.{after_read}
use Rattle.mmd.specs.Invariant.{Keeps}
use Rattle.mmd.specs.Meaning.{Meaning}
use Rattle.watch_list.specs.Entries.{address_of}
use Rattle.watch_list.specs.declared.entry.Entry.{Entry}
use Rattle.watch_list.specs.declared.entry.Entry.TheVariants.{Latch, Count}
use Rattle.promise.specs.Rules.{entry_read, place_of}

abbrev pub SlotsKeep : List SlotMeaning → Type 0
SlotsKeep slots = AllByRecursion (λ s. Keeps s.mmd) slots

-- an MMD after an entry's registers were read
abbrev pub after_entry : Entry → Meaning → Meaning
after_entry (Latch e) m = after_read m e.register
after_entry (Count e) m = after_read (after_read m e.high) e.low

found_twice : (f g : Meaning → Meaning) (p : Place) → on_found f (on_found g p) ≡ on_found (λ m. f (g m)) p
found_twice f g no_port = refl
found_twice f g no_device = refl
found_twice f g (found m) = refl

pub place_entry_read : (e : Entry) (slots : List SlotMeaning) → place_of e (entry_read e slots) ≡ on_found (after_entry e) (place_of e slots)
place_entry_read (Latch e) slots = place_register_read e.address e.register slots
place_entry_read (Count e) slots =
    place_register_read e.address e.low (register_read e.address e.high slots)
    ∙ ap (on_found (λ m. after_read m e.low)) (place_register_read e.address e.high slots)
    ∙ found_twice (λ m. after_read m e.low) (λ m. after_read m e.high) (place_of (Count e) slots)

pub place_entry_read_elsewhere : (e : Entry) (p : MmdAddress) (slots : List SlotMeaning) → same_address (address_of e) p ≡ false
    → place p (entry_read e slots) ≡ place p slots
place_entry_read_elsewhere (Latch e) p slots other = place_register_read_elsewhere e.address e.register p slots other
place_entry_read_elsewhere (Count e) p slots other =
    place_register_read_elsewhere e.address e.low p (register_read e.address e.high slots) other
    ∙ place_register_read_elsewhere e.address e.high p slots other

pub entry_read_keeps : (e : Entry) (slots : List SlotMeaning) → SlotsKeep slots → SlotsKeep (entry_read e slots)
entry_read_keeps (Latch e) slots keep = register_read_keeps e.address e.register slots keep
entry_read_keeps (Count e) slots keep =
    register_read_keeps e.address e.low (register_read e.address e.high slots)
    (register_read_keeps e.address e.high slots keep)
