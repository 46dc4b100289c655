-- What spelling and decoding promise of each other.
use Rattle.std.specs.Prelude.{◌≡◌, ℕ, ◌+◌, ◌*◌, ◌/◌, ◌%◌, ◌^◌, ◌<◌, ◌≤◌, ◌⊎◌, ◌↔◌, List, [], ◌∷◌, ◌++◌, length, Some, None, Ok, Err, slice_index}
use Rattle.call.specs.declared.call.Call.{Call}
use Rattle.call.specs.declared.call.Call.TheVariants.{WatchRead, At}
use Rattle.call.specs.declared.call.Request.{Request}
use Rattle.call.specs.declared.call.Request.TheVariants.{Read, Write, Line, Count, Finish, Reset}
use Rattle.trace_format.specs.declared.refusal.TraceRefusal.TheVariants.{UnlistedMap, CutRecord}
use Rattle.trace_format.specs.Records.{Taken, decode_of, record_of}

-- a line's number leaves room for its 128; no other field limits a call
abbrev pub RequestFits : Request → Type 0
RequestFits (Read register) = Unit {0}
RequestFits (Write register word) = Unit {0}
RequestFits (Line number up) = number < 128
RequestFits (Count counter amount) = Unit {0}
RequestFits (Finish register bit) = Unit {0}
RequestFits Reset = Unit {0}

abbrev pub FitsRecord : Call → Type 0
FitsRecord (WatchRead watcher entry) = Unit {0}
FitsRecord (At address request) = RequestFits request

-- a list of bytes
abbrev pub Bytes : List ℕ → Type 0
Bytes bs = (i : ℕ) → slice_index bs i < 256

-- one of the seven maps
abbrev pub Listed : ℕ → Type 0
Listed map =
    (map ≡ 0x03) ⊎ ((map ≡ 0x07) ⊎ ((map ≡ 0x08) ⊎ ((map ≡ 0x11) ⊎ ((map ≡ 0x21) ⊎ ((map ≡ 0x41) ⊎ (map ≡ 0x83))))))

-- whether bit k of a map stands: 1 or 0
abbrev pub stands : ℕ → ℕ → ℕ
stands map k = map / 2 ^ k % 2

-- how many bytes the fields of a map take
abbrev pub fields_length : ℕ → ℕ
fields_length map =
    2 * stands map 0 + 2 * stands map 1 + 2 * stands map 2 + 2 * stands map 3 + stands map 4 + 3 * stands map 5 + stands map 7

-- Spelling and decoding undo each other, and each refusal is given exactly where it should be.
pub record Decoding : Type 0 where
  -- the bytes that spell a call are decoded to it, and what follows them is left
  pub spelled_is_decoded : (call : Call) (rest : List ℕ) → FitsRecord call
      → decode_of (record_of call ++ rest) ≡ Ok (Some (record { call = call; rest = rest }))
  -- where a call is decoded, the input begins with the bytes that spell it, and the rest follows
  pub decoded_was_spelled : (bytes : List ℕ) (taken : Taken) → Bytes bytes → decode_of bytes ≡ Ok (Some taken)
      → (bytes ≡ record_of taken.call ++ taken.rest) × FitsRecord taken.call
  -- a record has three to seven bytes
  pub takes_some : (bytes : List ℕ) (taken : Taken) → decode_of bytes ≡ Ok (Some taken)
      → (length taken.rest + 3 ≤ length bytes) × (length bytes ≤ length taken.rest + 7)
  -- only an empty input is at its end
  pub ends : (bytes : List ℕ) → (decode_of bytes ≡ Ok None) ↔ (bytes ≡ [])
  -- an input is refused for its map exactly if that is not listed, however few bytes follow
  pub unlisted : (map : ℕ) (fields : List ℕ) → (decode_of (map ∷ fields) ≡ Err UnlistedMap) ↔ (Listed map → ⊥)
  -- it is refused as cut exactly if its map is listed and has more bytes of fields than follow
  pub cut : (map : ℕ) (fields : List ℕ)
      → (decode_of (map ∷ fields) ≡ Err CutRecord) ↔ (Listed map × (length fields < fields_length map))
