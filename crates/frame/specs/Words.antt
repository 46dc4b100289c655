-- The management frame word of IEEE 802.3 Clause 45, field by field.
--
--   31:30  29:28  27:23  22:18  17:16  15:0
--   ST     OP     PRTAD  DEVAD  TA     ADDRESS or DATA
use Rattle.std.specs.Prelude.{ℕ, ◌+◌, ◌*◌, ◌/◌, ◌%◌, ◌^◌, Bool, if◌then◌else◌, not, ◌&&◌, Ok, Err, Result, ◌==◌, nat_lt}
use Rattle.frame.specs.Addresses.{addressable}
use Rattle.frame.specs.declared.frame.Frame.{Frame}
use Rattle.frame.specs.declared.frame.Operation.{Operation}
use Rattle.frame.specs.declared.frame.Operation.TheVariants.{Address, Write, Read, PostReadIncrement}
use Rattle.frame.specs.declared.refusal.FrameRefusal.{FrameRefusal}
use Rattle.frame.specs.declared.refusal.FrameRefusal.TheVariants.{Start, Turnaround, Address as AboveThirtyOne}

-- the fields of a word
abbrev pub st : ℕ → ℕ
st w = w / 2 ^ 30 % 4

abbrev pub op : ℕ → ℕ
op w = w / 2 ^ 28 % 4

abbrev pub prtad : ℕ → ℕ
prtad w = w / 2 ^ 23 % 32

abbrev pub devad : ℕ → ℕ
devad w = w / 2 ^ 18 % 32

abbrev pub ta : ℕ → ℕ
ta w = w / 2 ^ 16 % 4

abbrev pub low16 : ℕ → ℕ
low16 w = w % 2 ^ 16

-- OP, TA and the low 16 bits that stand for an operation
abbrev pub op_of : Operation → ℕ
op_of (Address register) = 0
op_of (Write d) = 1
op_of PostReadIncrement = 2
op_of Read = 3

abbrev pub ta_of : Operation → ℕ
ta_of (Address register) = 2
ta_of (Write d) = 2
ta_of PostReadIncrement = 0
ta_of Read = 0

abbrev pub low16_of : Operation → ℕ
low16_of (Address register) = register
low16_of (Write d) = d
low16_of PostReadIncrement = 0
low16_of Read = 0

-- the word of a frame whose address fits
abbrev pub word_of : Frame → ℕ
word_of f =
    op_of f.operation * 2 ^ 28 + f.address.port * 2 ^ 23 + f.address.device * 2 ^ 18 + ta_of f.operation * 2 ^ 16
    + low16_of f.operation

-- what building a frame gives
unfoldable pub built : Frame → Result ℕ FrameRefusal
built f = if addressable f.address then Ok (word_of f) else Err AboveThirtyOne

-- OP 00 is address, 01 write, 10 post-read-increment and 11 read
abbrev pub operation_in : ℕ → Operation
operation_in w =
    if op w == 0 then Address (low16 w) else if op w == 1 then Write (low16 w) else if op w == 2 then PostReadIncrement else Read

-- an address or a write frame: the station drives the low 18 bits
abbrev pub drives_low : ℕ → Bool
drives_low w = nat_lt (op w) 2

abbrev pub frame_in : ℕ → Frame
frame_in w = record { address = record { port = prtad w; device = devad w }; operation = operation_in w }

-- what splitting a word gives: ST is tested first, then TA where the station drives it
unfoldable pub split_of : ℕ → Result Frame FrameRefusal
split_of w =
    if st w == 0 then (if drives_low w && not (ta w == 2) then Err Turnaround else Ok (frame_in w)) else Err Start

-- the bits that count: all of an address or write frame, all but the low 18 of a read
unfoldable pub counting_bits : ℕ → ℕ
counting_bits w = if drives_low w then w else w / 2 ^ 18 * 2 ^ 18
