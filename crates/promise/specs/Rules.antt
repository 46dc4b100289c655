-- The rules of a station: what each call answers and what it leaves, over the slots of its bank, the count of frames, and
-- the watched entries. A call is refused or admitted; a refused one leaves everything as it was.
use Rattle.std.specs.Prelude.{ℕ, zero, suc, ◌+◌, ◌%◌, Bool, true, false, cond, ◌&&◌, List, [], ◌∷◌, map, length, Some, None, Ok, Err, Option, Result, ◌==◌, nat_le, slice_set}
use Rattle.std.specs.List.{slice_get}
use Rattle.bank.specs.Slots.{SlotMeaning, next_place}
use Rattle.bus.specs.Places.{Place, no_port, no_device, found, place, register_read, register_written, event_taken}
use Rattle.frame.specs.Addresses.{addressable}
use Rattle.frame.specs.declared.address.MmdAddress.{MmdAddress}
use Rattle.mmd.specs.declared.event.Event.{Event}
use Rattle.mmd.specs.declared.event.Event.TheVariants.{Line as LineEvent, Count as CountEvent, Finish as FinishEvent, Reset as ResetEvent}
use Rattle.mmd.specs.Events.{after_read}
use Rattle.mmd.specs.Meaning.{Meaning, read_word}
use Rattle.mmd.specs.Refusals.{count_answer, finish_answer}
use Rattle.mmd.specs.declared.refusal.MmdRefusal.{MmdRefusal}
use Rattle.call.specs.declared.call.Call.{Call}
use Rattle.call.specs.declared.call.Call.TheVariants.{WatchRead, At}
use Rattle.call.specs.declared.call.Request.{Request}
use Rattle.call.specs.declared.call.Request.TheVariants.{Read, Write, Line, Count, Finish, Reset}
use Rattle.call.specs.declared.answer.Answer.{Answer}
use Rattle.call.specs.declared.answer.Answer.TheVariants.{Data, Told, Done, Refused}
use Rattle.call.specs.declared.answer.CallRefusal.{CallRefusal}
use Rattle.call.specs.declared.answer.CallRefusal.TheVariants.{OutOfRange, NoPort, NoDevice, Mmd}
use Rattle.watch_list.specs.Entries.{address_of, is_of, fed_by}
use Rattle.watch_list.specs.Watches.{entry_of, new_watched, told, after_look, taken_in}
use Rattle.watch_list.specs.declared.entry.Entry.{Entry}
use Rattle.watch_list.specs.declared.entry.Entry.TheVariants.{Latch as EntryLatch, Count as EntryCount}
use Rattle.watch_list.specs.declared.watch.Watched.{Watched}

pub record State : Type 0 where
  pub slots : List SlotMeaning
  -- the frames that the bus did not refuse, modulo 65,536
  pub frames : ℕ
  pub watched : List Watched

-- after set-up: no frame was sent, and every word is empty
abbrev pub set_up : List SlotMeaning → List Entry → State
set_up slots entries = record { slots = slots; frames = 0; watched = map new_watched entries }

abbrev pub more_frames : ℕ → ℕ → ℕ
more_frames n count = (count + n) % 65536

-- ---- an entry's registers are read, and all its words take the reading in
-- (no two entries of one MMD name one register, as the list's check sees to: so this feeds that entry alone)

-- the word of the register that feeds it; of a count entry then the low half's, after the high half was read (a latch
-- entry has no second word, and the 0 is not looked at)
abbrev pub first_word : Meaning → Entry → ℕ
first_word m e = read_word m (fed_by e)

abbrev pub second_word : Meaning → Entry → ℕ
second_word m (EntryLatch e) = 0
second_word m (EntryCount e) = read_word (after_read m e.high) e.low

abbrev pub entry_read : Entry → List SlotMeaning → List SlotMeaning
entry_read (EntryLatch e) slots = register_read e.address e.register slots
entry_read (EntryCount e) slots = register_read e.address e.low (register_read e.address e.high slots)

-- two frames for each register
abbrev pub entry_frames : Entry → ℕ
entry_frames (EntryLatch e) = 2
entry_frames (EntryCount e) = 4

abbrev pub place_of : Entry → List SlotMeaning → Place
place_of e slots = place (address_of e) slots

abbrev pub took_at : ℕ → Watched → Place → State → State
took_at i w no_port m = m
took_at i w no_device m = m
took_at i w (found mmd) m =
    record {
      slots = entry_read (entry_of w) m.slots;
      frames = more_frames (entry_frames (entry_of w)) m.frames;
      watched = slice_set m.watched i (taken_in (first_word mmd (entry_of w)) (second_word mmd (entry_of w)) w);
    }

abbrev pub took_nth : ℕ → Option Watched → State → State
took_nth i None m = m
took_nth i (Some w) m = took_at i w (place_of (entry_of w) m.slots) m

unfoldable pub took : ℕ → State → State
took i m = took_nth i (slice_get m.watched i) m

-- ---- all entries of the MMD at an address, in list order: the first k entries of the list are looked through

abbrev pub is_of_mmd : MmdAddress → Option Watched → Bool
is_of_mmd address None = false
is_of_mmd address (Some w) = is_of address (entry_of w)

abbrev pub sweep_step : MmdAddress → ℕ → State → State
sweep_step address k m = cond (is_of_mmd address (slice_get m.watched k)) (took k m) m

unfoldable pub swept : MmdAddress → ℕ → State → State
swept address zero m = m
swept address (suc k) m = sweep_step address k (swept address k m)

-- ---- a plain read

-- whether reading a register feeds an entry
abbrev pub hears : MmdAddress → ℕ → Watched → Bool
hears address register w = is_of address (entry_of w) && fed_by (entry_of w) == register

-- the number of the entry that the register feeds; there is one at most in a list that passed its check
unfoldable pub hearing : MmdAddress → ℕ → List Watched → Option ℕ
hearing address register [] = None
hearing address register (w ∷ ws) = cond (hears address register w) (Some 0) (next_place (hearing address register ws))

abbrev pub read_by : MmdAddress → ℕ → Option ℕ → State → State
read_by address register None m =
    record { slots = register_read address register m.slots; frames = more_frames 2 m.frames; watched = m.watched }
read_by address register (Some i) m = took i m

-- ---- a watch read: the entry is read, and then the asking watcher's word is emptied

abbrev pub looked_nth : ℕ → ℕ → Option Watched → State → State
looked_nth watcher i None m = m
looked_nth watcher i (Some w) m = record { slots = m.slots; frames = m.frames; watched = slice_set m.watched i (after_look watcher w) }

unfoldable pub looked : ℕ → ℕ → State → State
looked watcher i m = looked_nth watcher i (slice_get m.watched i) m

abbrev pub told_nth : ℕ → Option Watched → ℕ
told_nth watcher None = 0
told_nth watcher (Some w) = told watcher w

-- ---- when a call is refused: by 5, then 3, 4, then 6 or 7

abbrev pub in_range : Request → Bool
in_range (Read register) = true
in_range (Write register word) = true
in_range (Line number up) = nat_le number 31
in_range (Count counter amount) = nat_le counter 15
in_range (Finish register b) = nat_le b 15
in_range Reset = true

abbrev pub refused_by : Result (Unit {0}) MmdRefusal → Option CallRefusal
refused_by (Ok u) = None
refused_by (Err e) = Some (Mmd e)

abbrev pub mmd_verdict : Request → Meaning → Option CallRefusal
mmd_verdict (Read register) m = None
mmd_verdict (Write register word) m = None
mmd_verdict (Line number up) m = None
mmd_verdict (Count counter amount) m = refused_by (count_answer m counter)
mmd_verdict (Finish register b) m = refused_by (finish_answer m register b)
mmd_verdict Reset m = None

abbrev pub place_verdict : (Meaning → Option CallRefusal) → Place → Option CallRefusal
place_verdict of_mmd no_port = Some NoPort
place_verdict of_mmd no_device = Some NoDevice
place_verdict of_mmd (found m) = of_mmd m

-- a listed entry's port and device are at most 31: the list's check saw to that
abbrev pub watch_verdict : ℕ → Option Watched → List SlotMeaning → Option CallRefusal
watch_verdict watcher None slots = Some OutOfRange
watch_verdict watcher (Some w) slots = cond (nat_le watcher 7) (place_verdict (λ _. None) (place_of (entry_of w) slots)) (Some OutOfRange)

abbrev pub request_verdict : MmdAddress → Request → List SlotMeaning → Option CallRefusal
request_verdict address request slots =
    cond (addressable address && in_range request) (place_verdict (mmd_verdict request) (place address slots)) (Some OutOfRange)

-- none where the call is admitted
unfoldable pub verdict : Call → State → Option CallRefusal
verdict (WatchRead watcher i) m = watch_verdict watcher (slice_get m.watched i) m.slots
verdict (At address request) m = request_verdict address request m.slots

-- ---- what an admitted call leaves, and what it is answered

abbrev pub evented : MmdAddress → Event → State → State
evented address event m = record { slots = event_taken address event m.slots; frames = m.frames; watched = m.watched }

abbrev pub requested : MmdAddress → Request → State → State
requested address (Read register) m = read_by address register (hearing address register m.watched) m
requested address (Write register word) m =
    record { slots = register_written address register word m.slots; frames = more_frames 2 m.frames; watched = m.watched }
requested address (Line number up) m = evented address (LineEvent number up) m
requested address (Count counter amount) m = evented address (CountEvent counter amount) m
requested address (Finish register b) m = evented address (FinishEvent register b) m
requested address Reset m = evented address ResetEvent (swept address (length m.watched) m)

unfoldable pub admitted : Call → State → State
admitted (WatchRead watcher i) m = looked watcher i (took i m)
admitted (At address request) m = requested address request m

-- a call at an absent place is refused before this is asked
abbrev pub data_of : ℕ → Place → ℕ
data_of register no_port = 0
data_of register no_device = 0
data_of register (found m) = read_word m register

abbrev pub request_reply : MmdAddress → Request → State → Answer
request_reply address (Read register) m = Data (data_of register (place address m.slots))
request_reply address (Write register word) m = Done
request_reply address (Line number up) m = Done
request_reply address (Count counter amount) m = Done
request_reply address (Finish register b) m = Done
request_reply address Reset m = Done

unfoldable pub reply : Call → State → Answer
reply (WatchRead watcher i) m = Told (told_nth watcher (slice_get (took i m).watched i))
reply (At address request) m = request_reply address request m

-- ---- every call: its one answer, and the state after it

abbrev pub answer_under : Option CallRefusal → Answer → Answer
answer_under None granted = granted
answer_under (Some refusal) granted = Refused refusal

abbrev pub state_under : Option CallRefusal → State → State → State
state_under None granted before = granted
state_under (Some refusal) granted before = before

unfoldable pub answer_of : Call → State → Answer
answer_of call m = answer_under (verdict call m) (reply call m)

unfoldable pub after_call : Call → State → State
after_call call m = state_under (verdict call m) (admitted call m) m

-- ---- every list of calls

abbrev pub answers_of : State → List Call → List Answer
answers_of m [] = []
answers_of m (c ∷ cs) = answer_of c m ∷ answers_of (after_call c m) cs

abbrev pub after_calls : State → List Call → State
after_calls m [] = m
after_calls m (c ∷ cs) = after_calls (after_call c m) cs
