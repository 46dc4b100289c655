-- A register access of the bus, told by the rules.
use Rattle.std.proofs.Common.{◌≡◌, ℕ, ◌+◌, ◌%◌, ◌<◌, Bool, true, false, if◌then◌else◌, ◌&&◌, List, is_ok, Some, None, Ok, Err, Option, Result, refl, ap, ◌∙◌, arith}
use Rattle.frame.specs.declared.address.MmdAddress.{MmdAddress}
use Rattle.frame.specs.Addresses.{addressable}
use Rattle.bank.specs.Slots.{SlotMeaning}
use Rattle.bank.specs.declared.deed.Deed.TheVariants.{Frame}
use Rattle.frame.specs.declared.frame.Operation.TheVariants.{Address, Write, Read}
use Rattle.bus.specs.Places.{Place, no_port, no_device, found, accessed, frames_accessed, place, read_of, register_read, register_written, worked, write_of}
use Rattle.bus.specs.declared.answer.BusRefusal.{BusRefusal}
use Rattle.bus.specs.declared.answer.BusRefusal.TheVariants.{Frame as BusFrame}
use Rattle.frame.specs.declared.refusal.FrameRefusal.TheVariants.{Address as AboveThirtyOne}
use Rattle.bus.proofs.Places.{absent_unchanged}
use Rattle.mmd.specs.Meaning.{Meaning}
use Rattle.call.specs.Answers.{refusal_from}
use Rattle.call.specs.declared.answer.CallRefusal.{CallRefusal}
use Rattle.call.specs.declared.answer.CallRefusal.TheVariants.{OutOfRange}
use Rattle.promise.specs.Rules.{State, data_of, more_frames, place_verdict, read_by, state_under}
use Rattle.station.specs.Outcomes.{access_verdict, result_under}

-- a refusal of the bus as the station's
abbrev pub as_call : {A : Type 0} → Result A BusRefusal → Result A CallRefusal
as_call (Ok value) = Ok value
as_call (Err e) = Err (refusal_from e)

-- ---- where nothing is found

abbrev pub Absent : MmdAddress → List SlotMeaning → Type 0
Absent address slots = (m : Meaning) → place address slots ≡ found m → ⊥

pub absent_port : (address : MmdAddress) (slots : List SlotMeaning) → place address slots ≡ no_port → Absent address slots
absent_port address slots is m e = let z : ◌≡◌ {A = ℕ} 0 1 = cc in omega arith

pub absent_device : (address : MmdAddress) (slots : List SlotMeaning) → place address slots ≡ no_device → Absent address slots
absent_device address slots is m e = let z : ◌≡◌ {A = ℕ} 0 1 = cc in omega arith

pub absent_read : (address : MmdAddress) (register : ℕ) (slots : List SlotMeaning) → Absent address slots → register_read address register slots ≡ slots
unfolding register_read
absent_read address register slots absent =
    ap (worked address (Frame Read)) (absent_unchanged address (Frame (Address register)) slots absent) ∙ absent_unchanged address (Frame Read) slots absent

pub absent_written : (address : MmdAddress) (register word : ℕ) (slots : List SlotMeaning) → Absent address slots → register_written address register word slots ≡ slots
unfolding register_written
absent_written address register word slots absent =
    ap (worked address (Frame (Write word))) (absent_unchanged address (Frame (Address register)) slots absent) ∙ absent_unchanged address (Frame (Write word)) slots absent

-- ---- the answer

pub read_told : (address : MmdAddress) (register : ℕ) (slots : List SlotMeaning)
    → as_call (accessed address (read_of register (place address slots)))
    ≡ result_under (access_verdict address slots) (data_of register (place address slots))
read_told address register slots = by (addressable address) (place address slots)
  where
    by : (named : Bool) (p : Place)
        → as_call (if named then read_of register p else Err (BusFrame AboveThirtyOne))
        ≡ result_under (if named && true then place_verdict (λ _. None) p else Some OutOfRange) (data_of register p)
    by true no_port = refl
    by true no_device = refl
    by true (found m) = refl
    by false p = refl

pub write_told : (address : MmdAddress) (slots : List SlotMeaning)
    → as_call (accessed address (write_of (place address slots))) ≡ result_under (access_verdict address slots) tt
write_told address slots = by (addressable address) (place address slots)
  where
    by : (named : Bool) (p : Place)
        → as_call (if named then write_of p else Err (BusFrame AboveThirtyOne))
        ≡ result_under (if named && true then place_verdict (λ _. None) p else Some OutOfRange) tt
    by true no_port = refl
    by true no_device = refl
    by true (found m) = refl
    by false p = refl

-- ---- what an access leaves

abbrev under : {A : Type 0} → Option CallRefusal → A → A → A
under None granted before = granted
under (Some refusal) granted before = before

slots_left : (address : MmdAddress) (slots changed : List SlotMeaning) → (Absent address slots → changed ≡ slots)
    → (if addressable address then changed else slots) ≡ under (access_verdict address slots) changed slots
slots_left address slots changed stays = by (addressable address) (place address slots) refl
  where
    by : (named : Bool) (p : Place) → place address slots ≡ p
        → (if named then changed else slots) ≡ under (if named && true then place_verdict (λ _. None) p else Some OutOfRange) changed slots
    by true no_port is = stays (absent_port address slots is)
    by true no_device is = stays (absent_device address slots is)
    by true (found mmd) is = refl
    by false p is = refl

same_ok : {A : Type 0} (r : Result A BusRefusal) → is_ok r ≡ is_ok (as_call r)
same_ok (Ok value) = refl
same_ok (Err e) = refl

module _ (m : State) (fits : m.frames < 65536) (changed : List SlotMeaning) {A : Type 0} (value : A) where
  left_under : (v : Option CallRefusal) (slots : List SlotMeaning) (frames : ℕ) → slots ≡ under v changed m.slots
      → frames ≡ (m.frames + (if is_ok (result_under v value) then 2 else 0)) % 65536
      → ◌≡◌ {A = State} (record { slots = slots; frames = frames; watched = m.watched })
      (state_under v (record { slots = changed; frames = more_frames 2 m.frames; watched = m.watched }) m)
  left_under None slots frames e f = rw (e, f)
  left_under (Some refusal) slots frames e f = let same : frames ≡ m.frames = omega arith in rw (e, same)

  -- what the bus says of its slots and frames is what the rules say
  pub access_left : (address : MmdAddress) → (Absent address m.slots → changed ≡ m.slots) → (r : Result A BusRefusal)
      → as_call r ≡ result_under (access_verdict address m.slots) value
      → (slots : List SlotMeaning) (frames : ℕ) → slots ≡ (if addressable address then changed else m.slots) → frames ≡ frames_accessed m.frames r
      → ◌≡◌ {A = State} (record { slots = slots; frames = frames; watched = m.watched })
      (state_under (access_verdict address m.slots) (record { slots = changed; frames = more_frames 2 m.frames; watched = m.watched }) m)
  access_left address stays r told slots frames e f =
      left_under (access_verdict address m.slots) slots frames (e ∙ slots_left address m.slots changed stays)
      (f ∙ ap (λ ok. (m.frames + (if ok then 2 else 0)) % 65536) (same_ok r ∙ ap is_ok told))

-- ---- what the bus answers to a read, and leaves

pub read_accessed : (address : MmdAddress) (register : ℕ) (m : State) → m.frames < 65536 → (r : Result ℕ BusRefusal) (slots : List SlotMeaning) (frames : ℕ)
    → r ≡ accessed address (read_of register (place address m.slots))
    → slots ≡ (if addressable address then (register_read address register m.slots) else m.slots)
    → frames ≡ frames_accessed m.frames r
    → (as_call r ≡ result_under (access_verdict address m.slots) (data_of register (place address m.slots)))
    × (record { slots = slots; frames = frames; watched = m.watched } ≡ state_under (access_verdict address m.slots) (read_by address register None m) m)
read_accessed address register m fits r slots frames answered e f =
    let told = ap as_call answered ∙ read_told address register m.slots in (
      told,
      access_left m fits (register_read address register m.slots) (data_of register (place address m.slots)) address
          (absent_read address register m.slots) r told slots frames e f,
    )
