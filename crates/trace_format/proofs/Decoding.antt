-- The laws of decoding, from what each outcome says.
use Rattle.std.proofs.Common.{◌≡◌, ℕ, ◌+◌, ◌<◌, ◌≤◌, ◌↔◌, List, [], ◌∷◌, ◌++◌, length, Some, None, Ok, Err, Result, refl, subst, arith}
use Rattle.trace_format.specs.declared.refusal.TraceRefusal.{TraceRefusal}
use Rattle.trace_format.specs.declared.refusal.TraceRefusal.TheVariants.{UnlistedMap, CutRecord}
use Rattle.trace_format.specs.Decoding.{Bytes, Decoding, FitsRecord, Listed, fields_length}
use Rattle.trace_format.specs.Records.{Taken, decode_of, record_in, record_of, some_record}
use Rattle.trace_format.proofs.Outcomes.{Says, Whole, says}
use Rattle.trace_format.proofs.Spelled.{spelled_is_decoded}

some_back : (r : Result Taken TraceRefusal) (taken : Taken) → some_record r ≡ Ok (Some taken) → r ≡ Ok taken
some_back (Ok t) taken e = cc
some_back (Err x) taken e = cc

err_back : (r : Result Taken TraceRefusal) (x : TraceRefusal) → some_record r ≡ Err x → r ≡ Err x
err_back (Ok t) x e = cc
err_back (Err y) x e = cc

-- a decoded record is whole
whole : (map : ℕ) (fields : List ℕ) (taken : Taken) → decode_of (map ∷ fields) ≡ Ok (Some taken) → Whole map fields taken
unfolding decode_of
whole map fields taken e = subst (Says map fields) (some_back (record_in map fields) taken e) (says map fields)

pub decoded_was_spelled : (bytes : List ℕ) (taken : Taken) → Bytes bytes → decode_of bytes ≡ Ok (Some taken)
    → (bytes ≡ record_of taken.call ++ taken.rest) × FitsRecord taken.call
unfolding decode_of
decoded_was_spelled [] taken b e = let z : ◌≡◌ {A = ℕ} 0 1 = cc in absurd (omega arith)
decoded_was_spelled (map ∷ fields) taken b e = (whole map fields taken e).spelled b

-- the fields of a listed map take two to six bytes
fields_some : (map : ℕ) → Listed map → (2 ≤ fields_length map) × (fields_length map ≤ 6)
fields_some map l = (omega arith, omega arith)

pub takes_some : (bytes : List ℕ) (taken : Taken) → decode_of bytes ≡ Ok (Some taken)
    → (length taken.rest + 3 ≤ length bytes) × (length bytes ≤ length taken.rest + 7)
unfolding decode_of
takes_some [] taken e = let z : ◌≡◌ {A = ℕ} 0 1 = cc in absurd (omega arith)
takes_some (map ∷ fields) taken e =
    let w = whole map fields taken e in
    let f = fields_some map w.listed in
    let l = w.long in
    (omega arith, omega arith)

never_none : (r : Result Taken TraceRefusal) → some_record r ≡ Ok None → ⊥
never_none (Ok t) e = let z : ◌≡◌ {A = ℕ} 0 1 = cc in omega arith
never_none (Err x) e = let z : ◌≡◌ {A = ℕ} 0 1 = cc in omega arith

pub ends : (bytes : List ℕ) → (decode_of bytes ≡ Ok None) ↔ (bytes ≡ [])
unfolding decode_of
ends [] = (λ e. refl, λ e. refl)
ends (map ∷ fields) = (λ e. absurd (never_none (record_in map fields) e), λ e. cc)

says_unlisted : (map : ℕ) (fields : List ℕ) (r : Result Taken TraceRefusal)
    → Says map fields r → (Listed map → ⊥) → some_record r ≡ Err UnlistedMap
says_unlisted map fields (Ok t) s n = absurd (n s.listed)
says_unlisted map fields (Err UnlistedMap) s n = refl
says_unlisted map fields (Err CutRecord) s n = absurd (n s.0)

pub unlisted : (map : ℕ) (fields : List ℕ) → (decode_of (map ∷ fields) ≡ Err UnlistedMap) ↔ (Listed map → ⊥)
unfolding decode_of
unlisted map fields = (
  λ e. subst (Says map fields) (err_back (record_in map fields) UnlistedMap e) (says map fields),
  says_unlisted map fields (record_in map fields) (says map fields),
)

says_cut : (map : ℕ) (fields : List ℕ) (r : Result Taken TraceRefusal)
    → Says map fields r → Listed map × (length fields < fields_length map) → some_record r ≡ Err CutRecord
says_cut map fields (Ok t) s l = let e = s.long in let short = l.1 in absurd (omega arith)
says_cut map fields (Err UnlistedMap) s l = absurd (s l.0)
says_cut map fields (Err CutRecord) s l = refl

pub cut : (map : ℕ) (fields : List ℕ) → (decode_of (map ∷ fields) ≡ Err CutRecord) ↔ (Listed map × (length fields < fields_length map))
unfolding decode_of
cut map fields = (
  λ e. subst (Says map fields) (err_back (record_in map fields) CutRecord e) (says map fields),
  says_cut map fields (record_in map fields) (says map fields),
)

pub decoding : Decoding
decoding =
    record {
      spelled_is_decoded = spelled_is_decoded;
      decoded_was_spelled = decoded_was_spelled;
      takes_some = takes_some;
      ends = ends;
      unlisted = unlisted;
      cut = cut;
    }
