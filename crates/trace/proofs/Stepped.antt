-- What a step of a trace came to, read off its outcome.
use Rattle.std.proofs.Common.{◌≡◌, ℕ, ◌+◌, ◌-◌, ◌≤◌, Bool, true, false, cond, ltb, List, ◌++◌, length, take, drop, Some, None, Ok, Err, Option, Result, sym, refl, ap, ◌∙◌, subst, append_assoc, arith, length-append, length-take}
use borrow.Rule.Slice.PartMut.{put_mid}
use lib.Seq.{take-append-le}
use Rattle.std.proofs.lemmas.List.{take_all}
use Rattle.std.proofs.lemmas.Bool.Decides.{nat_tests}
use Rattle.promise.specs.Rules.{State, after_call}
use Rattle.trace_format.specs.Lines.{line_max, line_of}
use Rattle.trace_format.specs.Records.{Taken, decode_of}
use Rattle.trace_format.specs.declared.line.Line.TheVariants.{Stop}
use Rattle.trace_format.specs.declared.refusal.BufferRefusal.{BufferRefusal}
use Rattle.trace_format.specs.declared.refusal.BufferRefusal.TheVariants.{Short}
use Rattle.trace_format.specs.declared.refusal.TraceRefusal.{TraceRefusal}
use Rattle.trace_format.proofs.Telling.{longest}
use Rattle.trace.specs.Steps.{Outcome, answer_line, answered, buffer_after_step, ended, result_of_step, state_after_step, step_buffer, step_outcome, step_state, stopped}

module _ (m after : State) (rest buffer written : List ℕ) (state : after ≡ state_after_step m rest buffer) (wrote : written ≡ buffer_after_step m rest buffer) where
  pub record WasAnswered (n : ℕ) (more : List ℕ) : Type 0 where
    pub taken : Taken
    pub decodes : decode_of rest ≡ Ok (Some taken)
    pub left : more ≡ taken.rest
    pub long : n ≡ length (line_of (answer_line m taken))
    pub fits : n ≤ length buffer
    pub state_is : after ≡ after_call taken.call m
    pub text : written ≡ line_of (answer_line m taken) ++ drop n buffer

  pub record WasStopped (n : ℕ) : Type 0 where
    pub refusal : TraceRefusal
    pub decodes : decode_of rest ≡ Err refusal
    pub long : n ≡ length (line_of (Stop refusal))
    pub fits : n ≤ length buffer
    pub state_is : after ≡ m
    pub text : written ≡ line_of (Stop refusal) ++ drop n buffer

  pub record WasEnded : Type 0 where
    pub decodes : decode_of rest ≡ Ok None
    pub state_is : after ≡ m
    pub text : written ≡ buffer

  abbrev Was : Outcome → Type 0
  Was (answered n more) = WasAnswered n more
  Was (stopped n) = WasStopped n
  Was ended = WasEnded

  room : ltb (length buffer) line_max ≡ false → 11 ≤ length buffer
  room h = grind (arith, nat_tests)

  by_decoded : (o : Result (Option Taken) TraceRefusal) → decode_of rest ≡ o → ltb (length buffer) line_max ≡ false
      → after ≡ step_state m o → written ≡ step_buffer m buffer o → Was (step_outcome m o)
  by_decoded (Ok None) is fits st wr = record { decodes = is; state_is = st; text = wr }
  by_decoded (Ok (Some t)) is fits st wr =
      let line = longest (answer_line m t) in
      let big = room fits in
      record {
        taken = t;
        decodes = is;
        left = refl;
        long = refl;
        fits = omega arith;
        state_is = st;
        text = wr ∙ ap (λ b. cond b buffer (line_of (answer_line m t) ++ drop (length (line_of (answer_line m t))) buffer)) fits;
      }
  by_decoded (Err e) is fits st wr =
      let line = longest (Stop e) in
      let big = room fits in
      record {
        refusal = e;
        decodes = is;
        long = refl;
        fits = omega arith;
        state_is = st;
        text = wr ∙ ap (λ b. cond b buffer (line_of (Stop e) ++ drop (length (line_of (Stop e))) buffer)) fits;
      }

  by_room : (short : Bool) → ltb (length buffer) line_max ≡ short → (o : Outcome) → Ok o ≡ cond short (Err Short) (Ok (step_outcome m (decode_of rest))) → Was o
  by_room true is o came = let z : ◌≡◌ {A = ℕ} 0 1 = cc in absurd (omega arith)
  by_room false is o came =
      let same : step_outcome m (decode_of rest) ≡ o = cc in
      let st : after ≡ step_state m (decode_of rest) = state ∙ ap (λ b. cond b m (step_state m (decode_of rest))) is in
      let wr : written ≡ step_buffer m buffer (decode_of rest) = wrote ∙ ap (λ b. cond b buffer (step_buffer m buffer (decode_of rest))) is in
      subst Was same (by_decoded (decode_of rest) refl is st wr)

  pub was : (o : Outcome) → Ok o ≡ result_of_step m rest buffer → Was o
  was o came = by_room (ltb (length buffer) line_max) refl o came

module _ (m after : State) (rest buffer written : List ℕ) (state : after ≡ state_after_step m rest buffer) (wrote : written ≡ buffer_after_step m rest buffer) where
  refused_by_room : (short : Bool) → ltb (length buffer) line_max ≡ short → (e : BufferRefusal) → Err e ≡ cond short (Err Short) (Ok (step_outcome m (decode_of rest))) → (after ≡ m) × (written ≡ buffer)
  refused_by_room true is e came = (state ∙ ap (λ b. cond b m (step_state m (decode_of rest))) is, wrote ∙ ap (λ b. cond b buffer (step_buffer m buffer (decode_of rest))) is)
  refused_by_room false is e came = let z : ◌≡◌ {A = ℕ} 0 1 = cc in absurd (omega arith)

  -- a refused step changes nothing
  pub refused_unchanged : (e : BufferRefusal) → Err e ≡ result_of_step m rest buffer → (after ≡ m) × (written ≡ buffer)
  refused_unchanged e came = refused_by_room (ltb (length buffer) line_max) refl e came

take_front : (xs ys : List ℕ) (k : ℕ) → k ≡ length xs → take k (xs ++ ys) ≡ xs
take_front xs ys k is = let h : k ≤ length xs = omega arith in let g : length xs ≤ k = omega arith in rw take-append-le (take_all k xs g)

-- a line written behind those that stand
pub text_more : (lines buffer line : List ℕ) (at n : ℕ) → at ≤ length lines → n ≡ length line
    → (written : List ℕ) → written ≡ line ++ drop n buffer → take (at + n) (put_mid at (length lines - at) lines written) ≡ take at lines ++ line
text_more lines buffer line at n within long written text =
    let front = take at lines in
    let behind = drop (length lines - at) (drop at lines) in
    let whole : front ++ (written ++ behind) ≡ (front ++ line) ++ (drop n buffer ++ behind) =
    ap (λ l. front ++ (l ++ behind)) text ∙ ap (λ l. front ++ l) (append_assoc line (drop n buffer) behind) ∙ sym (append_assoc front line (drop n buffer ++ behind)) in
    let size : at + n ≡ length (front ++ line) = simp (length-append, length-take) (omega arith) in
    ap (take (at + n)) whole ∙ take_front (front ++ line) (drop n buffer ++ behind) (at + n) size
