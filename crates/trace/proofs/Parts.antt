-- Working a part of a trace, record by record.
use Rattle.std.proofs.Common.{◌≡◌, ℕ, suc, ◌+◌, ◌≤◌, Bool, true, false, ◌||◌, leb, List, [], ◌∷◌, ◌++◌, length, Some, None, Ok, Err, sym, refl, ap, ◌∙◌, subst, ap₂, inl, inr, append_assoc, arith, length-append}
use Rattle.std.proofs.lemmas.List.{append-nil}
use Rattle.std.proofs.lemmas.Bool.Decides.{nat_tests}
use Rattle.call.specs.declared.call.Call.{Call}
use Rattle.promise.specs.Rules.{State, after_call, after_calls, answer_of, answers_of}
use Rattle.trace_format.specs.Decoding.{Bytes, Listed, fields_length}
use Rattle.trace_format.specs.Lines.{line_of}
use Rattle.trace_format.specs.Records.{Taken, decode_of, record_of}
use Rattle.trace_format.specs.declared.line.Line.TheVariants.{Answer as AnswerLine, Stop as StopLine}
use Rattle.trace_format.specs.declared.refusal.TraceRefusal.{TraceRefusal}
use Rattle.trace_format.specs.declared.refusal.TraceRefusal.TheVariants.{UnlistedMap, CutRecord}
use Rattle.trace_format.proofs.Decoding.{cut, decoded_was_spelled, ends, unlisted}
use Rattle.trace_format.proofs.Spelled.{spelled_is_decoded}
use Rattle.trace.specs.Parts.{Follows, WorkedSoFar, WorkedToTheEnd, before}
use Rattle.trace.specs.Traces.{Reading, lines_of, reading_of, spelled}
use Rattle.trace.proofs.Inputs.{bytes_back, reading_ends, reading_more, reading_stops}

-- ---- a record that is there whole is decoded alike whatever follows

pub decoded_ahead : (bytes future : List ℕ) (taken : Taken) → Bytes bytes → decode_of bytes ≡ Ok (Some taken)
    → decode_of (bytes ++ future) ≡ Ok (Some (record { call = taken.call; rest = taken.rest ++ future }))
decoded_ahead bytes future taken all is =
    let was = decoded_was_spelled bytes taken all is in
    ap (λ bs. decode_of (bs ++ future)) was.0 ∙ ap decode_of (append_assoc (record_of taken.call) taken.rest future)
    ∙ spelled_is_decoded taken.call (taken.rest ++ future) was.1

six_at_most : (map : ℕ) → Listed map → fields_length map ≤ 6
six_at_most map (inl e) = subst (λ n. fields_length n ≤ 6) (sym e) (omega arith)
six_at_most map (inr (inl e)) = subst (λ n. fields_length n ≤ 6) (sym e) (omega arith)
six_at_most map (inr (inr (inl e))) = subst (λ n. fields_length n ≤ 6) (sym e) (omega arith)
six_at_most map (inr (inr (inr (inl e)))) = subst (λ n. fields_length n ≤ 6) (sym e) (omega arith)
six_at_most map (inr (inr (inr (inr (inl e))))) = subst (λ n. fields_length n ≤ 6) (sym e) (omega arith)
six_at_most map (inr (inr (inr (inr (inr (inl e)))))) = subst (λ n. fields_length n ≤ 6) (sym e) (omega arith)
six_at_most map (inr (inr (inr (inr (inr (inr e)))))) = subst (λ n. fields_length n ≤ 6) (sym e) (omega arith)

-- nothing follows, or seven bytes are there
abbrev pub Whole : Bool → List ℕ → Type 0
Whole last bytes = (last || leb 7 (length bytes)) ≡ true

stopped_ahead : (last : Bool) (bytes future : List ℕ) (refusal : TraceRefusal) → Whole last bytes → Follows last future → decode_of bytes ≡ Err refusal → decode_of (bytes ++ future) ≡ Err refusal
stopped_ahead true bytes future refusal whole none is = ap (λ f. decode_of (bytes ++ f)) none ∙ ap decode_of (append-nil bytes) ∙ is
stopped_ahead false [] future refusal whole any is = let z : ◌≡◌ {A = ℕ} 0 1 = grind (arith, nat_tests) in absurd (omega arith)
stopped_ahead false (map ∷ fields) future UnlistedMap whole any is = (unlisted map (fields ++ future)).1 ((unlisted map fields).0 is)
stopped_ahead false (map ∷ fields) future CutRecord whole any is =
    let short = (cut map fields).0 is in
    let few = six_at_most map short.0 in
    let long : 6 ≤ length fields = grind (arith, nat_tests) in
    absurd (let s = short.1 in omega arith)

-- ---- one call more

-- taking a record off an input takes as much off the records that are read off it
pub reads_more : (rest : List ℕ) (taken : Taken) → Bytes rest → decode_of rest ≡ Ok (Some taken)
    → length (spelled (reading_of rest).calls) + length taken.rest ≡ length rest + length (spelled (reading_of taken.rest).calls)
reads_more rest taken all is =
    let front = record_of taken.call in
    let after = spelled (reading_of taken.rest).calls in
    let here : length rest ≡ length front + length taken.rest = ap length (decoded_was_spelled rest taken all is).0 ∙ length-append front taken.rest in
    let read : length (spelled (reading_of rest).calls) ≡ length front + length after =
    ap (λ (r : Reading). length (spelled r.calls)) (reading_more rest taken (sym is)) ∙ length-append front after in
    omega arith

after_calls_more : (m : State) (calls : List Call) (c : Call) → after_calls m (calls ++ (c ∷ [])) ≡ after_call c (after_calls m calls)
after_calls_more m [] c = refl
after_calls_more m (x ∷ calls) c = after_calls_more (after_call x m) calls c

lines_more : (m : State) (calls : List Call) (c : Call)
    → lines_of (answers_of m (calls ++ (c ∷ []))) ≡ lines_of (answers_of m calls) ++ line_of (AnswerLine (answer_of c (after_calls m calls)))
lines_more m [] c = append-nil (line_of (AnswerLine (answer_of c m)))
lines_more m (x ∷ calls) c =
    ap (λ l. line_of (AnswerLine (answer_of x m)) ++ l) (lines_more (after_call x m) calls c)
    ∙ sym (append_assoc (line_of (AnswerLine (answer_of x m))) (lines_of (answers_of (after_call x m) calls)) (line_of (AnswerLine (answer_of c (after_calls (after_call x m) calls)))))

pub so_far_start : (m : State) (input : List ℕ) (last : Bool) → WorkedSoFar m input last m input []
so_far_start m input last =
    record { front = []; calls = []; splits = refl; state = refl; lines = refl; ahead = λ future follows. refl }

module _ (m : State) (input : List ℕ) (last : Bool) (now_m : State) (rest text : List ℕ) (s : WorkedSoFar m input last now_m rest text) (all : Bytes rest) where
  pub so_far_more : (taken : Taken) → decode_of rest ≡ Ok (Some taken)
      → WorkedSoFar m input last (after_call taken.call now_m) taken.rest (text ++ line_of (AnswerLine (answer_of taken.call now_m)))
  so_far_more taken is =
      let was = (decoded_was_spelled rest taken all is).0 in
      let c = taken.call in
      record {
        front = s.front ++ record_of c;
        calls = s.calls ++ (c ∷ []);
        splits = s.splits ∙ ap (λ l. s.front ++ l) was ∙ sym (append_assoc s.front (record_of c) taken.rest);
        state = ap (after_call c) s.state ∙ sym (after_calls_more m s.calls c);
        lines = ap₂ (λ t st. t ++ line_of (AnswerLine (answer_of c st))) s.lines s.state ∙ sym (lines_more m s.calls c);
        ahead = λ future follows.
            s.ahead future follows
            ∙ ap (before s.calls) (reading_more (rest ++ future) (record { call = c; rest = taken.rest ++ future }) (sym (decoded_ahead rest future taken all is)))
            ∙ ap (λ (l : List Call). record { calls = l; stop = (reading_of (taken.rest ++ future)).stop }) (sym (append_assoc s.calls (c ∷ []) (reading_of (taken.rest ++ future)).calls));
      }

  pub bytes_more : (taken : Taken) → decode_of rest ≡ Ok (Some taken) → Bytes taken.rest
  bytes_more taken is = bytes_back (record_of taken.call) taken.rest (subst Bytes (decoded_was_spelled rest taken all is).0 all)

  pub stops_here : (refusal : TraceRefusal) → Whole last rest → decode_of rest ≡ Err refusal → WorkedToTheEnd m input last now_m (text ++ line_of (StopLine refusal))
  stops_here refusal whole is =
      record {
        calls = s.calls;
        stop = Some refusal;
        state = s.state;
        whole_text = ap (λ t. t ++ line_of (StopLine refusal)) s.lines;
        all = λ future follows.
            s.ahead future follows ∙ ap (before s.calls) (reading_stops (rest ++ future) refusal (sym (stopped_ahead last rest future refusal whole follows is)))
            ∙ ap (λ (l : List Call). record { calls = l; stop = Some refusal }) (append-nil s.calls);
      }

  nothing_ahead : (last : Bool) (future : List ℕ) → Whole last rest → rest ≡ [] → Follows last future → rest ++ future ≡ []
  nothing_ahead true future whole none follows = ap₂ (λ a b. a ++ b) none follows
  nothing_ahead false future whole none follows = absurd (let short : length rest ≡ 0 = ap length none in grind (arith, nat_tests))

  pub ends_here : Whole last rest → decode_of rest ≡ Ok None → WorkedToTheEnd m input last now_m text
  ends_here whole is =
      let none = (ends rest).0 is in
      record {
        calls = s.calls;
        stop = None;
        state = s.state;
        whole_text = s.lines ∙ sym (append-nil (lines_of (answers_of m s.calls)));
        all = λ future follows.
            s.ahead future follows
            ∙ ap (λ l. before s.calls (reading_of l)) (nothing_ahead last future whole none follows)
            ∙ ap (before s.calls) (reading_ends [] (sym ((ends []).1 refl)))
            ∙ ap (λ (l : List Call). record { calls = l; stop = None }) (append-nil s.calls);
      }

pub answers_count : (m : State) (calls : List Call) → length (answers_of m calls) ≡ length calls
answers_count m [] = refl
answers_count m (c ∷ calls) = ap suc (answers_count (after_call c m) calls)
