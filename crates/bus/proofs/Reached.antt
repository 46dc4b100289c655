-- The two frames of a register access: both are refused alike, or both reach the MMD at the place.
use Rattle.std.proofs.Common.{◌≡◌, ℕ, Bool, true, false, if◌then◌else◌, ◌⊎◌, List, Some, None, Ok, Err, Option, Result, sym, refl, ap, ◌∙◌, ap₂, inl, inr, arith}
use Rattle.bank.specs.Slots.{SlotMeaning}
use Rattle.bank.specs.declared.deed.Deed.TheVariants.{Frame}
use Rattle.frame.specs.Addresses.{addressable}
use Rattle.frame.specs.declared.address.MmdAddress.{MmdAddress}
use Rattle.frame.specs.declared.frame.Operation.{Operation}
use Rattle.frame.specs.declared.frame.Operation.TheVariants.{Address, Write, Read}
use Rattle.frame.specs.declared.refusal.FrameRefusal.TheVariants.{Address as AboveThirtyOne}
use Rattle.mmd.specs.Meaning.{read_word}
use Rattle.bus.specs.Answers.{absence, absent, after_found, done_told, done_where, port_at, slot_at}
use Rattle.bus.specs.Places.{absent_place, accessed, found, place, place_of, read_of, register_read, register_written, worked, write_of}
use Rattle.bus.specs.Sent.{after_sent, sent}
use Rattle.bus.specs.declared.answer.BusRefusal.{BusRefusal}
use Rattle.bus.specs.declared.answer.BusRefusal.TheVariants.{Frame as NoFrame}
use Rattle.bus.proofs.Found.{found_within, slot_at_after, stands}

-- the address frame is refused, and so is the access
pub record RefusedAccess (address : MmdAddress) (register : ℕ) (slots : List SlotMeaning) (e : BusRefusal) : Type 0 where
  pub first : sent address (Address register) slots ≡ Err e
  pub reads : accessed address (read_of register (place address slots)) ≡ Err e
  pub writes : accessed address (write_of (place address slots)) ≡ Err e
  pub stays : (operation : Operation) → after_sent address operation slots ≡ slots

-- it is taken, and the second frame is answered by the MMD at the place
pub record TakenAccess (address : MmdAddress) (register : ℕ) (slots : List SlotMeaning) (word : ℕ) : Type 0 where
  pub first : sent address (Address register) slots ≡ Ok None
  pub second_read : sent address Read (after_sent address (Address register) slots) ≡ Ok (Some word)
  pub second_write : (w : ℕ) → sent address (Write w) (after_sent address (Address register) slots) ≡ Ok None
  pub reads : accessed address (read_of register (place address slots)) ≡ Ok word
  pub writes : accessed address (write_of (place address slots)) ≡ Ok tt

abbrev pub Reached : MmdAddress → ℕ → List SlotMeaning → Type 0
Reached address register slots =
    ((e : BusRefusal) × RefusedAccess address register slots e) ⊎ ((word : ℕ) × TakenAccess address register slots word)

-- ---- what is sent, by what the search finds

sent_at : (address : MmdAddress) (operation : Operation) (slots : List SlotMeaning) (ok : Bool) (at : Option ℕ)
    → addressable address ≡ ok → slot_at address slots ≡ at
    → sent address operation slots ≡ (if ok then done_where address (Frame operation) slots at else Err (NoFrame AboveThirtyOne))
unfolding sent
sent_at address operation slots ok at is_ok is_at =
    ap₂ (λ k a. if k then done_where address (Frame operation) slots a else Err (NoFrame AboveThirtyOne)) is_ok is_at

after_sent_at : (address : MmdAddress) (operation : Operation) (slots : List SlotMeaning) (ok : Bool) (at : Option ℕ)
    → addressable address ≡ ok → slot_at address slots ≡ at
    → after_sent address operation slots ≡ (if ok then after_found (Frame operation) slots at else slots)
unfolding after_sent worked
after_sent_at address operation slots ok at is_ok is_at =
    ap₂ (λ k a. if k then after_found (Frame operation) slots a else slots) is_ok is_at

accessed_at : {A : Type 0} (address : MmdAddress) (answer : Result A BusRefusal) (ok : Bool) → addressable address ≡ ok
    → accessed address answer ≡ (if ok then answer else Err (NoFrame AboveThirtyOne))
accessed_at address answer ok is_ok = ap (λ k. if k then answer else Err (NoFrame AboveThirtyOne)) is_ok

place_at : (address : MmdAddress) (slots : List SlotMeaning) (at : Option ℕ) → slot_at address slots ≡ at → place address slots ≡ place_of address.port slots at
unfolding place
place_at address slots at is_at = ap (place_of address.port slots) is_at

-- ---- the three ways

read_absent : (register : ℕ) (port : Option ℕ) → read_of register (absent_place port) ≡ Err (absence port)
read_absent register None = refl
read_absent register (Some n) = refl

write_absent : (port : Option ℕ) → write_of (absent_place port) ≡ Err (absence port)
write_absent None = refl
write_absent (Some n) = refl

-- no frame can name it
unnamed : (address : MmdAddress) (register : ℕ) (slots : List SlotMeaning) → addressable address ≡ false
    → RefusedAccess address register slots (NoFrame AboveThirtyOne)
unnamed address register slots above =
    record {
      first = sent_at address (Address register) slots false (slot_at address slots) above refl;
      reads = accessed_at address (read_of register (place address slots)) false above;
      writes = accessed_at address (write_of (place address slots)) false above;
      stays = λ operation. after_sent_at address operation slots false (slot_at address slots) above refl;
    }

-- it is not there
missing : (address : MmdAddress) (register : ℕ) (slots : List SlotMeaning) → addressable address ≡ true → slot_at address slots ≡ None
    → RefusedAccess address register slots (absent address.port slots)
missing address register slots named is_at =
    let by_port = port_at address.port slots in
    let nowhere = place_at address slots None is_at in
    record {
      first = sent_at address (Address register) slots true None named is_at;
      reads = accessed_at address (read_of register (place address slots)) true named ∙ ap (read_of register) nowhere ∙ read_absent register by_port;
      writes = accessed_at address (write_of (place address slots)) true named ∙ ap write_of nowhere ∙ write_absent by_port;
      stays = λ operation. after_sent_at address operation slots true None named is_at;
    }

-- it is there
there : (address : MmdAddress) (register n : ℕ) (slots : List SlotMeaning) → addressable address ≡ true → slot_at address slots ≡ Some n
    → (word : ℕ) × TakenAccess address register slots word
there address register n slots named is_at =
    let slot = stands n slots (found_within address n slots is_at) in
    let m = slot.0.mmd in
    let addressed = after_found (Frame (Address register)) slots (Some n) in
    let after : after_sent address (Address register) slots ≡ addressed = after_sent_at address (Address register) slots true (Some n) named is_at in
    let again : slot_at address addressed ≡ Some n = slot_at_after (Frame (Address register)) address slots (Some n) ∙ is_at in
    let here : place address slots ≡ found m = place_at address slots (Some n) is_at ∙ slot.1.0 in (
      read_word m register,
      record {
        first = sent_at address (Address register) slots true (Some n) named is_at ∙ ap done_told (slot.1.1 (Frame (Address register)));
        second_read =
            ap (sent address Read) after ∙ sent_at address Read addressed true (Some n) named again
            ∙ ap done_told (slot.1.2 (Frame (Address register)) (Frame Read));
        second_write = λ w.
            ap (sent address (Write w)) after ∙ sent_at address (Write w) addressed true (Some n) named again
            ∙ ap done_told (slot.1.2 (Frame (Address register)) (Frame (Write w)));
        reads = accessed_at address (read_of register (place address slots)) true named ∙ ap (read_of register) here;
        writes = accessed_at address (write_of (place address slots)) true named ∙ ap write_of here;
      },
    )

reached_at : (address : MmdAddress) (register : ℕ) (slots : List SlotMeaning) (ok : Bool) (at : Option ℕ)
    → addressable address ≡ ok → slot_at address slots ≡ at → Reached address register slots
reached_at address register slots false at named is_at = inl (NoFrame AboveThirtyOne, unnamed address register slots named)
reached_at address register slots true None named is_at = inl (absent address.port slots, missing address register slots named is_at)
reached_at address register slots true (Some n) named is_at = inr (there address register n slots named is_at)

pub reached : (address : MmdAddress) (register : ℕ) (slots : List SlotMeaning) → Reached address register slots
reached address register slots =
    reached_at address register slots (addressable address) (slot_at address slots) refl refl

-- ---- the slots after it

slots_read : (address : MmdAddress) (register : ℕ) (slots : List SlotMeaning)
    → after_sent address Read (after_sent address (Address register) slots) ≡ (if addressable address then (register_read address register slots) else slots)
unfolding after_sent register_read
slots_read address register slots =
    let before = worked address (Frame (Address register)) slots in
    elim (addressable address) as (λ k. (if k then worked address (Frame Read) (if k then before else slots) else (if k then before else slots)) ≡ (if k then worked address (Frame Read) before else slots))
    [ true ↦ refl | false ↦ refl ]

slots_written : (address : MmdAddress) (register word : ℕ) (slots : List SlotMeaning)
    → after_sent address (Write word) (after_sent address (Address register) slots) ≡ (if addressable address then (register_written address register word slots) else slots)
unfolding after_sent register_written
slots_written address register word slots =
    let before = worked address (Frame (Address register)) slots in
    elim (addressable address) as (λ k. (if k then worked address (Frame (Write word)) (if k then before else slots) else (if k then before else slots)) ≡ (if k then worked address (Frame (Write word)) before else slots))
    [ true ↦ refl | false ↦ refl ]

-- ---- the two frames, as the code meets their answers

module _ (address : MmdAddress) (register : ℕ) (before between : List SlotMeaning) (addressed : between ≡ after_sent address (Address register) before) where
  pub read_refused : (e : BusRefusal) → Err e ≡ sent address (Address register) before
      → (Err e ≡ accessed address (read_of register (place address before)))
      × (between ≡ (if addressable address then (register_read address register before) else before))
  read_refused e first =
      elim (reached address register before) [
        | inl (refused, all) ↦
            let same : e ≡ refused = cc (first, all.first) in (
              ap Err same ∙ sym all.reads,
              addressed ∙ all.stays (Address register) ∙ sym (all.stays Read)
                  ∙ ap (after_sent address Read) (sym (all.stays (Address register))) ∙ slots_read address register before,
            )
        | inr (word, all) ↦ let z : ◌≡◌ {A = ℕ} 0 1 = cc (first, all.first) in absurd (omega arith)
      ]

  pub write_refused : (word : ℕ) (e : BusRefusal) → Err e ≡ sent address (Address register) before
      → (Err e ≡ accessed address (write_of (place address before)))
      × (between ≡ (if addressable address then (register_written address register word before) else before))
  write_refused word e first =
      elim (reached address register before) [
        | inl (refused, all) ↦
            let same : e ≡ refused = cc (first, all.first) in (
              ap Err same ∙ sym all.writes,
              addressed ∙ all.stays (Address register) ∙ sym (all.stays (Write word))
                  ∙ ap (after_sent address (Write word)) (sym (all.stays (Address register))) ∙ slots_written address register word before,
            )
        | inr (read, all) ↦ let z : ◌≡◌ {A = ℕ} 0 1 = cc (first, all.first) in absurd (omega arith)
      ]

  pub read_after : (after : List SlotMeaning) → after ≡ after_sent address Read between
      → after ≡ (if addressable address then (register_read address register before) else before)
  read_after after is_after = is_after ∙ ap (after_sent address Read) addressed ∙ slots_read address register before

  pub write_after : (word : ℕ) (after : List SlotMeaning) → after ≡ after_sent address (Write word) between
      → after ≡ (if addressable address then (register_written address register word before) else before)
  write_after word after is_after = is_after ∙ ap (after_sent address (Write word)) addressed ∙ slots_written address register word before

  module _ (u : Option ℕ) (first : Ok u ≡ sent address (Address register) before) where
    -- after an address frame that is taken no frame is refused
    pub read_not_refused : (e : BusRefusal) → Err e ≡ sent address Read between → ⊥
    read_not_refused e second =
        elim (reached address register before) [
          | inl (refused, all) ↦ let z : ◌≡◌ {A = ℕ} 0 1 = cc (first, all.first) in omega arith
          | inr (word, all) ↦ let z : ◌≡◌ {A = ℕ} 0 1 = cc (second, addressed, all.second_read) in omega arith
        ]

    pub write_not_refused : (w : ℕ) (e : BusRefusal) → Err e ≡ sent address (Write w) between → ⊥
    write_not_refused w e second =
        elim (reached address register before) [
          | inl (refused, all) ↦ let z : ◌≡◌ {A = ℕ} 0 1 = cc (first, all.first) in omega arith
          | inr (word, all) ↦ let z : ◌≡◌ {A = ℕ} 0 1 = cc (second, addressed, all.second_write w) in omega arith
        ]

    -- a read frame is answered by data
    pub read_data : (r : Option ℕ) → Ok r ≡ sent address Read between
        → (word : ℕ) × (r ≡ Some word) × (Ok word ≡ accessed address (read_of register (place address before)))
    read_data r second =
        elim (reached address register before) [
          | inl (refused, all) ↦ let z : ◌≡◌ {A = ℕ} 0 1 = cc (first, all.first) in absurd (omega arith)
          | inr (word, all) ↦ (word, cc (second, addressed, all.second_read), sym all.reads)
        ]

    pub write_taken : Ok tt ≡ accessed address (write_of (place address before))
    write_taken =
        elim (reached address register before) [
          | inl (refused, all) ↦ let z : ◌≡◌ {A = ℕ} 0 1 = cc (first, all.first) in absurd (omega arith)
          | inr (word, all) ↦ sym all.writes
        ]
