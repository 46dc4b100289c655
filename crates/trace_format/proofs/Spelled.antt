-- The bytes that spell a call are decoded to it; and the bytes of a number and a line, both ways.
use Rattle.std.proofs.Common.{◌≡◌, ℕ, ◌+◌, ◌*◌, ◌/◌, ◌%◌, ◌<◌, Bool, true, false, leb, List, [], ◌∷◌, ◌++◌, Some, Ok, refl, arith}
use Rattle.std.proofs.lemmas.Bool.Decides.{nat_tests}
use Rattle.call.specs.declared.call.Call.{Call}
use Rattle.call.specs.declared.call.Call.TheVariants.{WatchRead, At}
use Rattle.call.specs.declared.call.Request.TheVariants.{Read, Write, Line, Count, Finish, Reset}
use Rattle.trace_format.specs.Decoding.{FitsRecord}
use Rattle.trace_format.specs.Records.{decode_of, line_byte, record_of, two_bytes}

-- two bytes of a number, and the number of two bytes
joined : (n : ℕ) → n / 256 * 256 + n % 256 ≡ n
joined n = omega arith

pub split : (high low : ℕ) → low < 256 → two_bytes (high * 256 + low) ≡ high ∷ low ∷ []
split high low fits =
    let h : (high * 256 + low) / 256 ≡ high = omega arith in
    let l : (high * 256 + low) % 256 ≡ low = omega arith in
    cc

line_number : (number : ℕ) (up : Bool) → number < 128 → line_byte number up % 128 ≡ number
line_number number true h = omega arith
line_number number false h = omega arith

line_up : (number : ℕ) (up : Bool) → number < 128 → leb 128 (line_byte number up) ≡ up
line_up number true h = grind (arith, nat_tests)
line_up number false h = grind (arith, nat_tests)

pub line_back : (byte : ℕ) → byte < 256 → line_byte (byte % 128) (leb 128 byte) ≡ byte
line_back byte h = grind (arith, nat_tests)

-- the bytes that spell a call are decoded to it
pub spelled_is_decoded : (call : Call) (rest : List ℕ) → FitsRecord call → decode_of (record_of call ++ rest) ≡ Ok (Some (record { call = call; rest = rest }))
unfolding decode_of
spelled_is_decoded (WatchRead watcher entry) rest h = refl
spelled_is_decoded (At address (Read register)) rest h = let r = joined register in cc
spelled_is_decoded (At address (Write register word)) rest h = let r = joined register in let w = joined word in cc
spelled_is_decoded (At address (Line number up)) rest h = let n = line_number number up h in let u = line_up number up h in cc
spelled_is_decoded (At address (Count counter amount)) rest h = let a = joined amount in cc
spelled_is_decoded (At address (Finish register bit)) rest h = let r = joined register in cc
spelled_is_decoded (At address Reset) rest h = refl
