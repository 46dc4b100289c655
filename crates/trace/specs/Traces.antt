-- The calls that the records of an input spell, how the input ends, and the text that answers it.
use Rattle.std.specs.Prelude.{◌≡◌, ℕ, zero, suc, List, [], ◌∷◌, ◌++◌, length, Some, None, Ok, Err, Option, Result}
use Rattle.call.specs.declared.answer.Answer.{Answer}
use Rattle.call.specs.declared.call.Call.{Call}
use Rattle.trace_format.specs.Decoding.{FitsRecord}
use Rattle.trace_format.specs.Lines.{line_of}
use Rattle.trace_format.specs.Records.{Taken, decode_of, record_of}
use Rattle.trace_format.specs.declared.line.Line.TheVariants.{Answer as AnswerLine, Stop as StopLine}
use Rattle.trace_format.specs.declared.refusal.TraceRefusal.{TraceRefusal}
use Rattle.std.specs.List.{AllByRecursion}

-- ---- record by record

-- the calls that the records of an input spell, and what ends them: none where the input ends, or the refusal of what
-- follows
pub record Reading : Type 0 where
  pub calls : List Call
  pub stop : Option TraceRefusal

abbrev pub reading_by : (List ℕ → Reading) → Result (Option Taken) TraceRefusal → Reading
reading_by more (Ok None) = record { calls = []; stop = None }
reading_by more (Ok (Some taken)) = record { calls = taken.call ∷ (more taken.rest).calls; stop = (more taken.rest).stop }
reading_by more (Err refusal) = record { calls = []; stop = Some refusal }

abbrev pub reading_within : ℕ → List ℕ → Reading
reading_within zero bytes = record { calls = []; stop = None }
reading_within (suc n) bytes = reading_by (reading_within n) (decode_of bytes)

-- an input has no more records than bytes
unfoldable pub reading_of : List ℕ → Reading
reading_of bytes = reading_within (length bytes) bytes

-- ---- the same as a relation: the input is the records of the calls, one after the other, and what ends them

abbrev pub spelled : List Call → List ℕ
spelled [] = []
spelled (c ∷ calls) = record_of c ++ spelled calls

abbrev pub ending : Option TraceRefusal → Result (Option Taken) TraceRefusal
ending None = Ok None
ending (Some refusal) = Err refusal

pub record Spelled (input : List ℕ) (r : Reading) : Type 0 where
  pub tail : List ℕ
  pub whole : input ≡ spelled r.calls ++ tail
  pub fits : AllByRecursion FitsRecord r.calls
  pub ends : decode_of tail ≡ ending r.stop

-- ---- the text: a line for each call, and one for what stops them

abbrev pub stop_text : Option TraceRefusal → List ℕ
stop_text None = []
stop_text (Some refusal) = line_of (StopLine refusal)

abbrev pub lines_of : List Answer → List ℕ
lines_of [] = []
lines_of (a ∷ answers) = line_of (AnswerLine a) ++ lines_of answers

abbrev pub text_of : List Answer → Option TraceRefusal → List ℕ
text_of answers stop = lines_of answers ++ stop_text stop
