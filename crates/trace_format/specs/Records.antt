-- Trace records: how a call is spelled as bytes, and which call the bytes of an input spell.
-- A record's first byte is a map. Bit k of the map says that field k follows; the fields come lowest bit first.
use Rattle.std.specs.Prelude.{ℕ, ◌+◌, ◌*◌, ◌/◌, ◌%◌, ◌^◌, Bool, cond, List, [], ◌∷◌, ◌++◌, Some, None, Ok, Err, Option, Result, ◌==◌, nat_le}
use Rattle.frame.specs.declared.address.MmdAddress.{MmdAddress}
use Rattle.call.specs.declared.call.Call.{Call}
use Rattle.call.specs.declared.call.Call.TheVariants.{WatchRead, At}
use Rattle.call.specs.declared.call.Request.{Request}
use Rattle.call.specs.declared.call.Request.TheVariants.{Read, Write, Line, Count, Finish, Reset}
use Rattle.trace_format.specs.declared.record.Record.{Record}
use Rattle.trace_format.specs.declared.refusal.TraceRefusal.{TraceRefusal}
use Rattle.trace_format.specs.declared.refusal.TraceRefusal.TheVariants.{UnlistedMap, CutRecord}

-- a field of a record: its bit of the map, and its bytes
pub record Field : Type 0 where
  pub place : ℕ
  pub bytes : List ℕ

-- a number of 16 bits, the higher byte first
abbrev pub two_bytes : ℕ → List ℕ
two_bytes n = n / 256 ∷ n % 256 ∷ []

-- the number of a line, plus 128 where it goes up
abbrev pub line_byte : ℕ → Bool → ℕ
line_byte number up = cond up (number + 128) number

-- the fields that spell what is asked of an MMD
abbrev pub request_fields : Request → List Field
request_fields (Read register) = record { place = 1; bytes = two_bytes register } ∷ []
request_fields (Write register word) =
    record { place = 1; bytes = two_bytes register } ∷ record { place = 2; bytes = two_bytes word } ∷ []
request_fields (Line number up) = record { place = 4; bytes = line_byte number up ∷ [] } ∷ []
request_fields (Count counter amount) = record { place = 5; bytes = counter ∷ two_bytes amount } ∷ []
request_fields (Finish register bit) =
    record { place = 1; bytes = two_bytes register } ∷ record { place = 7; bytes = bit ∷ [] } ∷ []
request_fields Reset = record { place = 6; bytes = [] } ∷ []

abbrev pub fields_of : Call → List Field
fields_of (WatchRead watcher entry) = record { place = 3; bytes = watcher ∷ entry ∷ [] } ∷ []
fields_of (At address request) = record { place = 0; bytes = address.port ∷ address.device ∷ [] } ∷ request_fields request

-- the byte in which just the bits of these fields stand
abbrev pub map_of : List Field → ℕ
map_of [] = 0
map_of (f ∷ fs) = 2 ^ f.place + map_of fs

abbrev pub bytes_of : List Field → List ℕ
bytes_of [] = []
bytes_of (f ∷ fs) = f.bytes ++ bytes_of fs

-- the bytes that spell a call
abbrev pub record_of : Call → List ℕ
record_of call = map_of (fields_of call) ∷ bytes_of (fields_of call)

-- a call taken off the front of an input, and the bytes behind it
pub record Taken : Type 0 where
  pub call : Call
  pub rest : List ℕ

-- the next byte of the fields and what follows from it; without one the record is cut
abbrev pub byte : (ℕ → List ℕ → Result Taken TraceRefusal) → List ℕ → Result Taken TraceRefusal
byte next [] = Err CutRecord
byte next (b ∷ rest) = next b rest

-- the next two bytes, as a number
abbrev pub word : (ℕ → List ℕ → Result Taken TraceRefusal) → List ℕ → Result Taken TraceRefusal
word next = byte (λ high. byte (λ low. next (high * 256 + low)))

-- the next two bytes, as a port and a device
abbrev pub address : (MmdAddress → List ℕ → Result Taken TraceRefusal) → List ℕ → Result Taken TraceRefusal
address next = byte (λ port. byte (λ device. next (record { port = port; device = device })))

-- the fields are whole, and spell this request at an address
abbrev pub asks : MmdAddress → Request → List ℕ → Result Taken TraceRefusal
asks at request rest = Ok (record { call = At at request; rest = rest })

-- what the bytes behind each map spell
abbrev pub plain_read_in : List ℕ → Result Taken TraceRefusal
plain_read_in = address (λ at. word (λ register. asks at (Read register)))

abbrev pub write_in : List ℕ → Result Taken TraceRefusal
write_in = address (λ at. word (λ register. word (λ value. asks at (Write register value))))

abbrev pub watch_read_in : List ℕ → Result Taken TraceRefusal
watch_read_in = byte (λ watcher. byte (λ entry rest. Ok (record { call = WatchRead watcher entry; rest = rest })))

abbrev pub line_in : List ℕ → Result Taken TraceRefusal
line_in = address (λ at. byte (λ line. asks at (Line (line % 128) (nat_le 128 line))))

abbrev pub count_in : List ℕ → Result Taken TraceRefusal
count_in = address (λ at. byte (λ counter. word (λ amount. asks at (Count counter amount))))

abbrev pub reset_in : List ℕ → Result Taken TraceRefusal
reset_in = address (λ at. asks at Reset)

abbrev pub finish_in : List ℕ → Result Taken TraceRefusal
finish_in = address (λ at. word (λ register. byte (λ bit. asks at (Finish register bit))))

-- what a map and the bytes behind it spell: the map is looked at first
abbrev pub record_in : ℕ → List ℕ → Result Taken TraceRefusal
record_in map fields =
    cond (map == 0x03) (plain_read_in fields)
    (cond (map == 0x07) (write_in fields)
    (cond (map == 0x08) (watch_read_in fields)
    (cond (map == 0x11) (line_in fields)
    (cond (map == 0x21) (count_in fields)
    (cond (map == 0x41) (reset_in fields)
    (cond (map == 0x83) (finish_in fields)
    (Err UnlistedMap)))))))

abbrev pub some_record : Result Taken TraceRefusal → Result (Option Taken) TraceRefusal
some_record (Ok taken) = Ok (Some taken)
some_record (Err e) = Err e

-- what an input spells at its front: nothing where it is at its end
unfoldable pub decode_of : List ℕ → Result (Option Taken) TraceRefusal
decode_of [] = Ok None
decode_of (map ∷ fields) = some_record (record_in map fields)

-- a record of the code as it is spoken of here
abbrev pub taken_by : Record → Taken
taken_by r = record { call = r.call; rest = r.rest.now }

abbrev pub record_taken : Result Record TraceRefusal → Result Taken TraceRefusal
record_taken (Ok r) = Ok (taken_by r)
record_taken (Err e) = Err e

abbrev pub decoded : Result (Option Record) TraceRefusal → Result (Option Taken) TraceRefusal
decoded (Ok None) = Ok None
decoded (Ok (Some r)) = Ok (Some (taken_by r))
decoded (Err e) = Err e
