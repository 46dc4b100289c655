-- What set-up gives: a station to which nothing has happened, or the bank as it was and the reason.
use Rattle.std.specs.Prelude.{◌≡◌, List, Ok, Err, Result}
use Rattle.bank.specs.Slots.{SlotMeaning}
use Rattle.promise.specs.Rules.{set_up}
use Rattle.watch_list.specs.Checks.{check_of}
use Rattle.watch_list.specs.declared.entry.Entry.{Entry}
use Rattle.station.specs.Stations.{state_of}
use Rattle.station.specs.declared.refused.SetUpRefused.{SetUpRefused}
use Rattle.station.specs.declared.refused.Why.{Why}
use Rattle.station.specs.declared.refused.Why.TheVariants.{Listed, Memory}
use Rattle.station.specs.declared.station.Station.{Station}

-- the list's fault; or a list in order, for which there was no memory
abbrev pub RefusedFor : List Entry → Why → Type 0
RefusedFor entries (Listed fault) = check_of entries ≡ Err fault
RefusedFor entries Memory = check_of entries ≡ Ok tt

abbrev pub HandsBack : {B : Type 0} → B → List Entry → SetUpRefused B → Type 0
HandsBack bank entries refused = (refused.bank ≡ bank) × RefusedFor entries refused.why

abbrev pub SetsUp : {B : Type 0} → (B → List SlotMeaning) → B → List Entry → Result (Station B) (SetUpRefused B) → Type 0
SetsUp slots bank entries (Ok s) = (check_of entries ≡ Ok tt) × (state_of slots s ≡ set_up (slots bank) entries)
SetsUp slots bank entries (Err refused) = HandsBack bank entries refused
