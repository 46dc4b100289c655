-- What happened in a run, in the words of those who work with it: a log of calls with their answers, and what lines,
-- counts and looks it shows. Nothing here knows how a station works.
use Rattle.std.specs.Prelude.{◌≡◌, ℕ, ◌+◌, Bool, true, false, if◌then◌else◌, ◌&&◌, ◌⊎◌, List, [], ◌∷◌, ◌++◌, Some, None, Option, ◌==◌}
use Rattle.std.specs.List.{slice_get, AllByRecursion}
use Rattle.call.specs.Answers.{is_accepted}
use Rattle.call.specs.declared.call.Call.{Call}
use Rattle.call.specs.declared.call.Call.TheVariants.{WatchRead, At}
use Rattle.call.specs.declared.call.Request.{Request}
use Rattle.call.specs.declared.call.Request.TheVariants.{Read, Write, Line, Count, Finish, Reset}
use Rattle.call.specs.declared.answer.Answer.{Answer}
use Rattle.frame.specs.Addresses.{same_address}
use Rattle.frame.specs.declared.address.MmdAddress.{MmdAddress}
use Rattle.watch_list.specs.Entries.{is_of}
use Rattle.watch_list.specs.declared.entry.Entry.{Entry}

-- a call and its answer
pub record Exchange : Type 0 where
  pub call : Call
  pub answer : Answer

abbrev pub Log : Type 0
Log = List Exchange

-- a run's calls beside their answers
abbrev pub exchanges : List Call → List Answer → Log
exchanges [] answers = []
exchanges (c ∷ cs) [] = []
exchanges (c ∷ cs) (a ∷ answers) = record { call = c; answer = a } ∷ exchanges cs answers

abbrev pub accepted : Exchange → Bool
accepted x = is_accepted x.answer

-- ---- lines: as the last accepted line call for it set it, or else as it was at set-up; what a request, a call, an
-- exchange and a log make of a line that was up or down

abbrev pub line_asked : ℕ → Request → Bool → Bool
line_asked l (Read register) was = was
line_asked l (Write register word) was = was
line_asked l (Line number up) was = if number == l then up else was
line_asked l (Count counter amount) was = was
line_asked l (Finish register b) was = was
line_asked l Reset was = was

abbrev pub line_called : MmdAddress → ℕ → Call → Bool → Bool
line_called address l (WatchRead watcher i) was = was
line_called address l (At named request) was = if same_address named address then line_asked l request was else was

abbrev pub line_by : MmdAddress → ℕ → Exchange → Bool → Bool
line_by address l x was = if accepted x then line_called address l x.call was else was

abbrev pub line_after : MmdAddress → ℕ → Bool → Log → Bool
line_after address l was [] = was
line_after address l was (x ∷ log) = line_after address l (line_by address l x was) log

-- ---- counts: the amounts of the accepted count calls for a counter

abbrev pub amount_asked : ℕ → Request → ℕ
amount_asked k (Read register) = 0
amount_asked k (Write register word) = 0
amount_asked k (Line number up) = 0
amount_asked k (Count counter amount) = if counter == k then amount else 0
amount_asked k (Finish register b) = 0
amount_asked k Reset = 0

abbrev pub amount_called : MmdAddress → ℕ → Call → ℕ
amount_called address k (WatchRead watcher i) = 0
amount_called address k (At named request) = if same_address named address then amount_asked k request else 0

abbrev pub amount_by : MmdAddress → ℕ → Exchange → ℕ
amount_by address k x = if accepted x then amount_called address k x.call else 0

abbrev pub counted : MmdAddress → ℕ → Log → ℕ
counted address k [] = 0
counted address k (x ∷ log) = amount_by address k x + counted address k log

-- ---- looks: accepted watch reads by one watcher of one entry

abbrev pub is_watch_read : ℕ → ℕ → Call → Bool
is_watch_read watcher i (WatchRead w e) = w == watcher && e == i
is_watch_read watcher i (At address request) = false

abbrev pub is_look : ℕ → ℕ → Exchange → Bool
is_look watcher i x = is_watch_read watcher i x.call && accepted x

-- nothing yet, or a log whose last exchange is a look
abbrev pub FromLook : ℕ → ℕ → Log → Type 0
FromLook watcher i before =
    (before ≡ []) ⊎ ((past : Log) × (look : Exchange) × (before ≡ past ++ (look ∷ [])) × (is_look watcher i look ≡ true))

-- `since` is what came after that watcher's previous look at the entry, or after set-up where there was none
pub record Since (watcher i : ℕ) (before since : Log) : Type 0 where
  pub from_look : FromLook watcher i before
  pub no_look : AllByRecursion (λ x. is_look watcher i x ≡ false) since

-- ---- moments: the end of `before`, and the end of each call since, refused or not (the look itself sets no line, so its
-- end is no further moment)

abbrev pub AtSomeMoment : (Log → Type 0) → Log → Log → Type 0
AtSomeMoment holds before since = (front : Log) × (back : Log) × (since ≡ front ++ back) × holds (before ++ front)

-- ---- naming: a call names the MMD at its address, a watch read that of its entry

abbrev pub names_entry : MmdAddress → Option Entry → Bool
names_entry address None = false
names_entry address (Some e) = is_of address e

abbrev pub call_names : MmdAddress → List Entry → Call → Bool
call_names address entries (WatchRead watcher i) = names_entry address (slice_get entries i)
call_names address entries (At named request) = same_address named address

abbrev pub calls_naming : MmdAddress → List Entry → List Call → List Call
calls_naming address entries [] = []
calls_naming address entries (c ∷ cs) =
    if call_names address entries c then c ∷ calls_naming address entries cs else calls_naming address entries cs

abbrev pub exchanges_naming : MmdAddress → List Entry → Log → Log
exchanges_naming address entries [] = []
exchanges_naming address entries (x ∷ log) =
    if call_names address entries x.call then x ∷ exchanges_naming address entries log else exchanges_naming address entries log
