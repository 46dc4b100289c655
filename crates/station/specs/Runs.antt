-- What a run gives: the one answer to each call and the state after all of them, or what a refused set-up hands back.
use Rattle.std.specs.Prelude.{◌≡◌, List, Ok, Err, vec_items, Result}
use Rattle.bank.specs.Slots.{SlotMeaning}
use Rattle.call.specs.declared.call.Call.{Call}
use Rattle.promise.specs.Logs.{exchanges}
use Rattle.promise.specs.Promises.{AnsweredByRules, Promise}
use Rattle.promise.specs.Rules.{after_calls, set_up}
use Rattle.watch_list.specs.Checks.{check_of}
use Rattle.watch_list.specs.declared.entry.Entry.{Entry}
use Rattle.station.specs.SetUps.{HandsBack}
use Rattle.station.specs.Stations.{state_of}
use Rattle.station.specs.declared.ran.Run.{Run}
use Rattle.station.specs.declared.refused.SetUpRefused.{SetUpRefused}

pub record Ran {B : Type 0} (slots : B → List SlotMeaning) (bank : B) (entries : List Entry) (calls : List Call) (run : Run B) : Type 0 where
  pub passed : check_of entries ≡ Ok tt
  pub answered : AnsweredByRules (slots bank) entries calls (vec_items run.answers)
  pub left : state_of slots run.station ≡ after_calls (set_up (slots bank) entries) calls

abbrev pub Runs : {B : Type 0} → (B → List SlotMeaning) → B → List Entry → List Call → Result (Run B) (SetUpRefused B) → Type 0
Runs slots bank entries calls (Ok run) = Ran slots bank entries calls run
Runs slots bank entries calls (Err refused) = HandsBack bank entries refused

-- the watchers' promise, over the calls beside their answers
abbrev pub KeepsPromise : {B : Type 0} → (B → List SlotMeaning) → B → List Entry → List Call → Result (Run B) (SetUpRefused B) → Type 0
KeepsPromise slots bank entries calls (Ok run) = Promise (slots bank) entries calls (exchanges calls (vec_items run.answers))
KeepsPromise slots bank entries calls (Err refused) = Unit {0}
