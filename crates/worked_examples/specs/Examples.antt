-- The worked examples of the card, straight from the rules: frame words, MMDs laid out by a few rows, and a bus with one slot.
use Rattle.std.specs.Prelude.{◌≡◌, ℕ, true, false, List, [], ◌∷◌, map, Ok, Err}
use Rattle.bank.specs.Slots.{SlotMeaning}
use Rattle.bus.specs.Answers.{after_frame}
use Rattle.frame.specs.Words.{built, split_of}
use Rattle.frame.specs.declared.frame.Frame.{Frame}
use Rattle.frame.specs.declared.frame.Operation.{Operation}
use Rattle.frame.specs.declared.frame.Operation.TheVariants.{Address, Read, PostReadIncrement}
use Rattle.frame.specs.declared.refusal.FrameRefusal.TheVariants.{Start, Turnaround}
use Rattle.mmd.specs.Events.{after_read, after_write, after_line, after_count}
use Rattle.mmd.specs.Meaning.{Meaning, new_meaning, read_word}
use Rattle.rows.specs.Checks.{layout_of}
use Rattle.rows.specs.declared.row.Row.{Row}

-- ---- frames: port 1, device 3

abbrev pub at_1_3 : Operation → Frame
at_1_3 operation = record { address = record { port = 1; device = 3 }; operation = operation }

-- ---- MMDs

-- a row: register, high, low, kind, number
abbrev pub row : ℕ → ℕ → ℕ → ℕ → ℕ → Row
row register high low kind number = record { register = register; high = high; low = low; kind = kind; number = number }

-- a new MMD of these rows
abbrev pub new : List Row → Meaning
new rows = new_meaning (layout_of rows)

-- the same with its counters at this count
abbrev pub counted_to : ℕ → List Row → Meaning
counted_to n rows =
    record { layout = layout_of rows; line = λ _. false; stored = (new rows).stored; counter = λ _. n; held = λ _. 0 }

-- 1.8.11 latches line 1 high, or low
abbrev pub latching_high : Meaning
latching_high = new (row 8 11 11 3 1 ∷ [])

abbrev pub latching_low : Meaning
latching_low = new (row 8 11 11 4 1 ∷ [])

-- a six-bit counter in 1.5
abbrev pub six_bits : List Row
six_bits = row 5 5 0 7 0 ∷ []

-- a long counter, its low half in 3.76 and its high half in 3.77
abbrev pub long : List Row
long = row 76 15 0 9 0 ∷ row 77 15 0 8 0 ∷ []

-- 1.0.11 a setting of default 0, 1.0.15 self-clearing
abbrev pub control : Meaning
control = new (row 0 11 11 5 0 ∷ row 0 15 15 6 0 ∷ [])

-- ---- a bus: one slot, at port 1 and device 3, by where its address register is

abbrev pub pointing_at : ℕ → List SlotMeaning
pointing_at register = record { address = record { port = 1; device = 3 }; register = register; mmd = control } ∷ []

abbrev pub pointers : List SlotMeaning → List ℕ
pointers slots = map (λ s. s.register) slots

pub record WorkedExamples : Type 0 where
  -- 0x008E004C is address, port 1, device 3, register 76
  pub address_frame : split_of 0x008E004C ≡ Ok (at_1_3 (Address 76))
  -- the read frame there is 0x308C0000; 0x308FFFFF is read alike
  pub read_frame : built (at_1_3 Read) ≡ Ok 0x308C0000
  pub read_alike : (split_of 0x308C0000 ≡ Ok (at_1_3 Read)) × (split_of 0x308FFFFF ≡ Ok (at_1_3 Read))
  -- 0x108D1234 is refused for its turnaround, 0x40000000 for its start
  pub refused_turnaround : split_of 0x108D1234 ≡ Err Turnaround
  pub refused_start : split_of 0x40000000 ≡ Err Start
  -- post-read-increment at 65534 leaves 65535, and at 65535 too
  pub increment_stops :
      let increment : ℕ = 0x208C0000 in
      (built (at_1_3 PostReadIncrement) ≡ Ok increment)
      × (pointers (after_frame increment (pointing_at 65534)) ≡ 65535 ∷ [])
      × (pointers (after_frame increment (pointing_at 65535)) ≡ 65535 ∷ [])
  -- latching high, line up: one, one; line goes down: one, then zero
  pub latches_high :
      let up = after_line latching_high 1 true in
      let read_up = after_read up 8 in
      let down = after_line (after_read read_up 8) 1 false in
      (read_word up 8 ≡ 0x0800) × (read_word read_up 8 ≡ 0x0800) × (read_word down 8 ≡ 0x0800) × (read_word (after_read down 8) 8 ≡ 0)
  -- latching low on a new MMD, line goes up: zero, then one
  pub latches_low :
      let up = after_line latching_low 1 true in
      (read_word up 8 ≡ 0) × (read_word (after_read up 8) 8 ≡ 0x0800)
  -- a six-bit counter at 60, counted by 10: 63, then 0
  pub short_counter_stops :
      let m = after_count (counted_to 60 six_bits) 0 10 in
      (read_word m 5 ≡ 63) × (read_word (after_read m 5) 5 ≡ 0)
  -- a long counter at 4,294,967,290, counted by 10: halves 0xFFFF and 0xFFFF, the low half again 0xFFFF
  pub long_counter_stops :
      let m = after_count (counted_to 4294967290 long) 0 10 in
      let high = after_read m 77 in
      (read_word m 77 ≡ 0xFFFF) × (read_word high 76 ≡ 0xFFFF) × (read_word (after_read high 76) 76 ≡ 0xFFFF)
  -- 0x8800 written, then 0: the setting is 0 again, the self-clearing bit stays one
  pub self_clearing_stays : read_word (after_write (after_write control 0 0x8800) 0 0) 0 ≡ 0x8000
