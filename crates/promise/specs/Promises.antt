-- The watchers' promise: what every run of a station keeps, over its log and the bank as it was at set-up.
use Rattle.std.specs.Prelude.{◌≡◌, ℕ, ◌<◌, min, Bool, true, if◌then◌else◌, ◌↔◌, List, ◌∷◌, ◌++◌, Some}
use Rattle.std.specs.List.{slice_get}
use Rattle.bank.specs.Slots.{SlotMeaning}
use Rattle.bits.specs.Bits.{bit}
use Rattle.bus.specs.Places.{found, place}
use Rattle.frame.specs.declared.address.MmdAddress.{MmdAddress}
use Rattle.mmd.specs.Cells.{latch, long_field}
use Rattle.mmd.specs.Invariant.{Settled}
use Rattle.mmd.specs.Meaning.{Meaning}
use Rattle.call.specs.Answers.{value_of}
use Rattle.call.specs.declared.answer.Answer.{Answer}
use Rattle.call.specs.declared.call.Call.{Call}
use Rattle.watch_list.specs.declared.entry.Entry.{Entry}
use Rattle.watch_list.specs.declared.entry.Entry.TheVariants.{Latch, Count}
use Rattle.watch_list.specs.declared.entry.LatchEntry.{LatchEntry}
use Rattle.watch_list.specs.declared.entry.CountEntry.{CountEntry}
use Rattle.promise.specs.Logs.{AtSomeMoment, Exchange, Log, Since, calls_naming, counted, exchanges, exchanges_naming, is_look, line_after}
use Rattle.promise.specs.Rules.{answers_of, set_up}

-- the mask of the bits that latch with a sense: high or low
abbrev pub mask_of : Bool → LatchEntry → ℕ
mask_of sense e = if sense then e.high_mask else e.low_mask

-- somewhere in the log a watcher looks at an entry, and `since` is what came after its previous look at it
pub record Looks (log : Log) (watcher i : ℕ) (before since : Log) (look : Exchange) : Type 0 where
  pub later : Log
  pub splits : log ≡ before ++ (since ++ (look ∷ later))
  pub is_one : is_look watcher i look ≡ true
  pub since_previous : Since watcher i before since

-- A look tells a latching-high bit as one exactly when its line was up at some moment since that watcher's previous look
-- at the entry, and a latching-low bit as zero exactly when its line was down at one. The bit is in the mask of its sense,
-- and the entry's MMD was settled at set-up.
abbrev pub TellsLatches : List SlotMeaning → List Entry → Log → Type 0
TellsLatches slots entries log =
    (watcher i b l : ℕ) (sense : Bool) (e : LatchEntry) (m : Meaning) (before since : Log) (look : Exchange)
    → Looks log watcher i before since look
    → slice_get entries i ≡ Some (Latch e)
    → place e.address slots ≡ found m
    → Settled m
    → m.layout.cell e.register b ≡ latch sense l
    → b < 16
    → bit (mask_of sense e) b ≡ true
    → (bit (value_of look.answer) b ≡ sense)
    ↔ AtSomeMoment (λ past. line_after e.address l (m.line l) past ≡ sense) before since

-- A look at a counter tells the sum of the counts reported to it since that watcher's previous look, or 4,294,967,295 if
-- the sum is more. The entry names just the halves of that counter, and its MMD was settled at set-up.
abbrev pub TellsCounts : List SlotMeaning → List Entry → Log → Type 0
TellsCounts slots entries log =
    (watcher i k : ℕ) (e : CountEntry) (m : Meaning) (before since : Log) (look : Exchange)
    → Looks log watcher i before since look
    → slice_get entries i ≡ Some (Count e)
    → place e.address slots ≡ found m
    → Settled m
    → m.layout.field k ≡ long_field e.high e.low
    → value_of look.answer ≡ min 4294967295 (counted e.address k since)

-- the answers that the rules give to a list of calls, on a station fresh from set-up
abbrev pub AnsweredByRules : List SlotMeaning → List Entry → List Call → List Answer → Type 0
AnsweredByRules slots entries calls answers = answers ≡ answers_of (set_up slots entries) calls

-- Another station has the same watch list, and its bank holds one MMD alike, at the same address, whatever stands beside
-- it in either. If its calls that name that MMD are the same, in the same order, then they get the same answers.
abbrev pub UnseenBeside : List SlotMeaning → List Entry → List Call → Log → Type 0
UnseenBeside slots entries calls log =
    (address : MmdAddress) (m : Meaning) (other_slots : List SlotMeaning) (other_calls : List Call) (other_answers : List Answer)
    → place address slots ≡ found m
    → place address other_slots ≡ found m
    → AnsweredByRules other_slots entries other_calls other_answers
    → calls_naming address entries calls ≡ calls_naming address entries other_calls
    → exchanges_naming address entries log ≡ exchanges_naming address entries (exchanges other_calls other_answers)

-- Every look in the log has such a past: a previous look by that watcher at that entry, or set-up, and what came since.
-- So what is told of looks is told of all of them.
abbrev pub EveryLookHasItsPast : Log → Type 0
EveryLookHasItsPast log =
    (watcher i : ℕ) (past later : Log) (look : Exchange)
    → log ≡ past ++ (look ∷ later)
    → is_look watcher i look ≡ true
    → (before : Log) × (since : Log) × (past ≡ before ++ since) × Looks log watcher i before since look

pub record Promise (slots : List SlotMeaning) (entries : List Entry) (calls : List Call) (log : Log) : Type 0 where
  pub every_look_has_its_past : EveryLookHasItsPast log
  pub latches_told : TellsLatches slots entries log
  pub counts_told : TellsCounts slots entries log
  pub unseen_beside : UnseenBeside slots entries calls log
