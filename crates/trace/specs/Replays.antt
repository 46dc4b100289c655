-- What replaying a whole trace gives: the text that answers it and the state after it, or what a refused set-up hands back.
use Rattle.std.specs.Prelude.{◌≡◌, ℕ, List, Ok, Err, vec_items, Result}
use Rattle.bank.specs.Slots.{SlotMeaning}
use Rattle.promise.specs.Logs.{exchanges}
use Rattle.promise.specs.Promises.{Promise}
use Rattle.promise.specs.Rules.{after_calls, answers_of, set_up}
use Rattle.station.specs.Stations.{state_of}
use Rattle.station.specs.declared.refused.SetUpRefused.{SetUpRefused}
use Rattle.station.specs.declared.refused.Why.{Why}
use Rattle.station.specs.declared.refused.Why.TheVariants.{Listed, Memory}
use Rattle.trace.specs.Traces.{Spelled, reading_of, text_of}
use Rattle.trace.specs.declared.replayed.Replayed.{Replayed}
use Rattle.watch_list.specs.Checks.{check_of}
use Rattle.watch_list.specs.declared.entry.Entry.{Entry}

pub record ReplayedWhole {B : Type 0} (slots : B → List SlotMeaning) (bank : B) (entries : List Entry) (input : List ℕ) (r : Replayed B) : Type 0 where
  pub passed : check_of entries ≡ Ok tt
  -- the input is the records of the calls, and what ends them
  pub spelled : Spelled input (reading_of input)
  pub text : vec_items r.text ≡ text_of (answers_of (set_up (slots bank) entries) (reading_of input).calls) (reading_of input).stop
  pub left : state_of slots r.station ≡ after_calls (set_up (slots bank) entries) (reading_of input).calls

-- the list's fault, or no memory
abbrev pub RefusedFor : List Entry → Why → Type 0
RefusedFor entries (Listed fault) = check_of entries ≡ Err fault
RefusedFor entries Memory = Unit {0}

abbrev pub Replays : {B : Type 0} → (B → List SlotMeaning) → B → List Entry → List ℕ → Result (Replayed B) (SetUpRefused B) → Type 0
Replays slots bank entries input (Ok r) = ReplayedWhole slots bank entries input r
Replays slots bank entries input (Err refused) = (refused.bank ≡ bank) × RefusedFor entries refused.why

-- the watchers' promise, for the calls that the records spell beside the answers that the text tells
abbrev pub KeepsPromise : {B : Type 0} → (B → List SlotMeaning) → B → List Entry → List ℕ → Result (Replayed B) (SetUpRefused B) → Type 0
KeepsPromise slots bank entries input (Ok r) =
    Promise (slots bank) entries (reading_of input).calls (exchanges (reading_of input).calls (answers_of (set_up (slots bank) entries) (reading_of input).calls))
KeepsPromise slots bank entries input (Err refused) = Unit {0}
