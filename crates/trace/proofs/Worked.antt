-- Where working a part of a trace stands, and what one step more comes to.
use Rattle.std.proofs.Common.{◌≡◌, ℕ, ◌+◌, ◌-◌, ◌<◌, ◌≤◌, Bool, List, ◌++◌, length, take, drop, Ok, sym, ap, ◌∙◌, subst, arith, length-append, length-drop, length-take}
use borrow.Rule.Slice.PartMut.{put_mid, same_len_mid, take_put}
use Rattle.promise.specs.Rules.{State}
use Rattle.trace_format.specs.Decoding.{Bytes}
use Rattle.trace_format.specs.Lines.{line_of}
use Rattle.trace_format.specs.declared.line.Line.TheVariants.{Stop}
use Rattle.trace_format.proofs.Decoding.{takes_some}
use Rattle.trace.specs.Parts.{WorkedSoFar, WorkedToTheEnd}
use Rattle.trace.specs.Steps.{answer_line, answered, buffer_after_step, ended, result_of_step, state_after_step, stopped}
use Rattle.trace.specs.Traces.{Reading, reading_of, spelled}
use Rattle.trace.proofs.Inputs.{reading_ends, reading_stops}
use Rattle.trace.proofs.Parts.{Whole, bytes_more, ends_here, reads_more, so_far_more, so_far_start, stops_here}
use Rattle.trace.proofs.Stepped.{text_more, was}

-- how long the records of the calls are that are read off an input
abbrev pub read_length : List ℕ → ℕ
read_length input = length (spelled (reading_of input).calls)

-- the lines of the records so far stand at the start of the buffer
pub record Working (m : State) (input : List ℕ) (last : Bool) (here : State) (rest lines : List ℕ) (at : ℕ) : Type 0 where
  pub so_far : WorkedSoFar m input last here rest (take at lines)
  pub bytes : Bytes rest
  pub inside : at ≤ length lines
  pub within : length rest ≤ length input
  -- the records that are read off the input are those that were taken and those that are read off the rest
  pub taken : read_length input + length rest ≡ length input + read_length rest

pub working_start : (m : State) (input : List ℕ) (last : Bool) (lines : List ℕ) → Bytes input → Working m input last m input lines 0
working_start m input last lines all = record { so_far = so_far_start m input last; bytes = all; inside = omega arith; within = omega arith; taken = omega arith }

-- what is left of the buffer, and the buffer after something was written there
abbrev pub unused : List ℕ → ℕ → List ℕ
unused lines at = take (length lines - at) (drop at lines)

abbrev pub filled : List ℕ → ℕ → List ℕ → List ℕ
filled lines at written = put_mid at (length lines - at) lines written

module _ (m : State) (input : List ℕ) (last : Bool) (here after : State) (rest lines : List ℕ) (at : ℕ) (written : List ℕ)
    (w : Working m input last here rest lines at)
    (state : after ≡ state_after_step here rest (unused lines at)) (wrote : written ≡ buffer_after_step here rest (unused lines at)) where
  -- a line that fits leaves as long a buffer
  fitting : (n : ℕ) (line : List ℕ) → n ≡ length line → n ≤ length (unused lines at) → written ≡ line ++ drop n (unused lines at)
      → at + n ≤ length (filled lines at written)
  fitting n line long fits text =
      let inside = w.inside in
      let whole : length written ≡ length (unused lines at) = ap length text ∙ simp (length-append, length-drop) (omega arith) in
      let kept : length (filled lines at written) ≡ length lines = same_len_mid at (length lines - at) lines written whole in
      omega (arith, length-take (length lines - at) (drop at lines), length-drop at lines)

  pub record GoesOn (n : ℕ) (more : List ℕ) : Type 0 where
    pub working : Working m input last after more (filled lines at written) (at + n)
    pub shorter : length more < length rest

  pub goes_on : (n : ℕ) (more : List ℕ) → Ok (answered n more) ≡ result_of_step here rest (unused lines at) → GoesOn n more
  goes_on n more came =
      let a = was here after rest (unused lines at) written state wrote (answered n more) came in
      let line = line_of (answer_line here a.taken) in
      let text = text_more lines (unused lines at) line at n w.inside a.long written a.text in
      let so_far = so_far_more m input last here rest (take at lines) w.so_far w.bytes a.taken a.decodes in
      let less = (takes_some rest a.taken a.decodes).0 in
      let same : length more ≡ length a.taken.rest = ap length a.left in
      let same_read : read_length more ≡ read_length a.taken.rest = ap read_length a.left in
      let read = reads_more rest a.taken w.bytes a.decodes in
      let within = w.within in
      let taken = w.taken in
      record {
        working = record {
          so_far = subst (λ (t : List ℕ). WorkedSoFar m input last after more t) (sym text)
              (subst (λ (r : List ℕ). WorkedSoFar m input last after r (take at lines ++ line)) (sym a.left)
              (subst (λ st. WorkedSoFar m input last st a.taken.rest (take at lines ++ line)) (sym a.state_is) so_far));
          bytes = subst Bytes (sym a.left) (bytes_more m input last here rest (take at lines) w.so_far w.bytes a.taken a.decodes);
          inside = fitting n line a.long a.fits a.text;
          within = omega arith;
          taken = omega arith;
        };
        shorter = omega arith;
      }

  -- a buffer that stays as it was
  unwritten : written ≡ unused lines at → at ≤ length (filled lines at written)
  unwritten text =
      let inside = w.inside in
      let kept : length (filled lines at written) ≡ length lines = same_len_mid at (length lines - at) lines written (ap length text) in
      omega arith

  -- where no call is read off the rest, all records were taken
  all_taken : read_length rest ≡ 0 → length input - length rest ≡ read_length input
  all_taken none =
      let within = w.within in
      let taken = w.taken in
      omega arith

  pub stops_there : (n : ℕ) → Ok (stopped n) ≡ result_of_step here rest (unused lines at) → Whole last rest
      → (at + n ≤ length (filled lines at written)) × WorkedToTheEnd m input last after (take (at + n) (filled lines at written))
      × (length input - length rest ≡ read_length input)
  stops_there n came whole =
      let a = was here after rest (unused lines at) written state wrote (stopped n) came in
      let line = line_of (Stop a.refusal) in
      let text = text_more lines (unused lines at) line at n w.inside a.long written a.text in
      let over = stops_here m input last here rest (take at lines) w.so_far w.bytes a.refusal whole a.decodes in (
        fitting n line a.long a.fits a.text,
        subst (λ (t : List ℕ). WorkedToTheEnd m input last after t) (sym text)
            (subst (λ st. WorkedToTheEnd m input last st (take at lines ++ line)) (sym a.state_is) over),
        all_taken (ap (λ (r : Reading). length (spelled r.calls)) (reading_stops rest a.refusal (sym a.decodes))),
      )

  pub ends_there : Ok ended ≡ result_of_step here rest (unused lines at) → Whole last rest
      → (at ≤ length (filled lines at written)) × WorkedToTheEnd m input last after (take at (filled lines at written))
      × (length input - length rest ≡ read_length input)
  ends_there came whole =
      let a = was here after rest (unused lines at) written state wrote ended came in
      let over = ends_here m input last here rest (take at lines) w.so_far w.bytes whole a.decodes in (
        unwritten a.text,
        subst (λ (t : List ℕ). WorkedToTheEnd m input last after t) (sym (take_put at (length lines - at) lines written w.inside))
            (subst (λ st. WorkedToTheEnd m input last st (take at lines)) (sym a.state_is) over),
        all_taken (ap (λ (r : Reading). length (spelled r.calls)) (reading_ends rest (sym a.decodes))),
      )
