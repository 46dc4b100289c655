-- What an input spells, one record at a time.
use Rattle.std.proofs.Common.{◌≡◌, ℕ, zero, suc, ◌≤◌, List, [], ◌∷◌, ◌++◌, length, Some, None, Ok, Err, Option, Result, sym, refl, ap, ◌∙◌, subst, append_assoc, arith}
use Rattle.trace_format.specs.Decoding.{Bytes}
use Rattle.trace_format.specs.Records.{Taken, decode_of, record_of}
use Rattle.trace_format.specs.declared.refusal.TraceRefusal.{TraceRefusal}
use Rattle.trace_format.proofs.Decoding.{decoded_was_spelled, ends, takes_some}
use Rattle.trace.specs.Traces.{Reading, Spelled, reading_by, reading_of, reading_within, spelled}

-- ---- as many steps as there are bytes suffice

fuel_by : (more less : List ℕ → Reading) (bytes : List ℕ) (o : Result (Option Taken) TraceRefusal) → decode_of bytes ≡ o
    → ((taken : Taken) → decode_of bytes ≡ Ok (Some taken) → more taken.rest ≡ less taken.rest) → reading_by more o ≡ reading_by less o
fuel_by more less bytes (Ok None) is same = refl
fuel_by more less bytes (Ok (Some taken)) is same =
    ap (λ (r : Reading). record { calls = taken.call ∷ r.calls; stop = r.stop }) (same taken is)
fuel_by more less bytes (Err e) is same = refl

reading_fuel : (n k : ℕ) (bytes : List ℕ) → length bytes ≤ n → length bytes ≤ k → reading_within n bytes ≡ reading_within k bytes
reading_fuel zero zero bytes a b = refl
reading_fuel zero (suc k) [] a b = sym (ap (reading_by (reading_within k)) ((ends []).1 refl))
reading_fuel zero (suc k) (x ∷ bytes) a b = absurd (omega arith)
reading_fuel (suc n) zero [] a b = ap (reading_by (reading_within n)) ((ends []).1 refl)
reading_fuel (suc n) zero (x ∷ bytes) a b = absurd (omega arith)
reading_fuel (suc n) (suc k) bytes a b =
    fuel_by (reading_within n) (reading_within k) bytes (decode_of bytes) refl
    (λ taken is. let less = (takes_some bytes taken is).0 in reading_fuel n k taken.rest (omega arith) (omega arith))

-- ---- one record at a time

pub reading_step : (bytes : List ℕ) → reading_of bytes ≡ reading_by reading_of (decode_of bytes)
unfolding reading_of
reading_step bytes =
    reading_fuel (length bytes) (suc (length bytes)) bytes (omega arith) (omega arith)
    ∙ fuel_by (reading_within (length bytes)) reading_of bytes (decode_of bytes) refl
    (λ taken is. let less = (takes_some bytes taken is).0 in reading_fuel (length bytes) (length taken.rest) taken.rest (omega arith) (omega arith))

-- ---- the relation

pub bytes_back : (front back : List ℕ) → Bytes (front ++ back) → Bytes back
bytes_back [] back all = all
bytes_back (x ∷ front) back all = bytes_back front back (λ i. all (suc i))

spelled_by : (bytes : List ℕ) (more : List ℕ → Reading) → Bytes bytes → (o : Result (Option Taken) TraceRefusal) → decode_of bytes ≡ o
    → ((taken : Taken) → decode_of bytes ≡ Ok (Some taken) → Spelled taken.rest (more taken.rest))
    → Spelled bytes (reading_by more o)
spelled_by bytes more all (Ok None) is rest = record { tail = bytes; whole = refl; fits = tt; ends = is }
spelled_by bytes more all (Ok (Some taken)) is rest =
    let was = decoded_was_spelled bytes taken all is in
    let after = rest taken is in
    record {
      tail = after.tail;
      whole = was.0 ∙ ap (λ l. record_of taken.call ++ l) after.whole ∙ sym (append_assoc (record_of taken.call) (spelled (more taken.rest).calls) after.tail);
      fits = (was.1, after.fits);
      ends = after.ends;
    }
spelled_by bytes more all (Err e) is rest = record { tail = bytes; whole = refl; fits = tt; ends = is }

spelled_within : (n : ℕ) (bytes : List ℕ) → length bytes ≤ n → Bytes bytes → Spelled bytes (reading_within n bytes)
spelled_within zero [] short all = record { tail = []; whole = refl; fits = tt; ends = (ends []).1 refl }
spelled_within zero (x ∷ bytes) short all = absurd (omega arith)
spelled_within (suc n) bytes short all =
    spelled_by bytes (reading_within n) all (decode_of bytes) refl
    (λ taken is.
    let less = (takes_some bytes taken is).0 in
    let was = (decoded_was_spelled bytes taken all is).0 in
    spelled_within n taken.rest (omega arith) (bytes_back (record_of taken.call) taken.rest (subst Bytes was all)))

-- an input of bytes is the records of the calls that are read off it, and what ends them
pub input_spelled : (bytes : List ℕ) → Bytes bytes → Spelled bytes (reading_of bytes)
unfolding reading_of
input_spelled bytes all = spelled_within (length bytes) bytes (omega arith) all

pub reading_more : (bytes : List ℕ) (taken : Taken) → Ok (Some taken) ≡ decode_of bytes
    → reading_of bytes ≡ record { calls = taken.call ∷ (reading_of taken.rest).calls; stop = (reading_of taken.rest).stop }
reading_more bytes taken is = reading_step bytes ∙ ap (reading_by reading_of) (sym is)

pub reading_ends : (bytes : List ℕ) → Ok None ≡ decode_of bytes → reading_of bytes ≡ record { calls = []; stop = None }
reading_ends bytes is = reading_step bytes ∙ ap (reading_by reading_of) (sym is)

pub reading_stops : (bytes : List ℕ) (refusal : TraceRefusal) → Err refusal ≡ decode_of bytes → reading_of bytes ≡ record { calls = []; stop = Some refusal }
reading_stops bytes refusal is = reading_step bytes ∙ ap (reading_by reading_of) (sym is)
