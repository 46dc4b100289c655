-- One step of a trace: a record's call is made and answered by its line, or the trace ends.
use Rattle.std.specs.Prelude.{ℕ, cond, List, length, Some, None, Ok, Err, Option, Result, nat_lt}
use Rattle.promise.specs.Rules.{State, after_call, answer_of}
use Rattle.trace_format.specs.Lines.{buffer_after, line_max, line_of}
use Rattle.trace_format.specs.Records.{Taken, decode_of}
use Rattle.trace_format.specs.declared.line.Line.{Line}
use Rattle.trace_format.specs.declared.line.Line.TheVariants.{Answer, Stop}
use Rattle.trace_format.specs.declared.refusal.BufferRefusal.{BufferRefusal}
use Rattle.trace_format.specs.declared.refusal.BufferRefusal.TheVariants.{Short}
use Rattle.trace_format.specs.declared.refusal.TraceRefusal.{TraceRefusal}
use Rattle.trace.specs.declared.step.Progress.{Progress}
use Rattle.trace.specs.declared.step.Progress.TheVariants.{Answered, Stopped, End}

-- what a step comes to: a line of some length and the input behind the record, a line that ends the trace, or nothing at
-- the end of the input
pub data Outcome : Type 0 where
  answered : ℕ → List ℕ → Outcome
  stopped : ℕ → Outcome
  ended : Outcome

abbrev pub outcome : Progress → Outcome
outcome (Answered n rest) = answered n rest.now
outcome (Stopped n) = stopped n
outcome End = ended

abbrev pub outcomes : Result Progress BufferRefusal → Result Outcome BufferRefusal
outcomes (Ok p) = Ok (outcome p)
outcomes (Err refusal) = Err refusal

-- the answer line of the next record's call, by the rules
abbrev pub answer_line : State → Taken → Line
answer_line m taken = Answer (answer_of taken.call m)

abbrev pub step_outcome : State → Result (Option Taken) TraceRefusal → Outcome
step_outcome m (Ok None) = ended
step_outcome m (Ok (Some taken)) = answered (length (line_of (answer_line m taken))) taken.rest
step_outcome m (Err refusal) = stopped (length (line_of (Stop refusal)))

abbrev pub step_state : State → Result (Option Taken) TraceRefusal → State
step_state m (Ok None) = m
step_state m (Ok (Some taken)) = after_call taken.call m
step_state m (Err refusal) = m

abbrev pub step_buffer : State → List ℕ → Result (Option Taken) TraceRefusal → List ℕ
step_buffer m buffer (Ok None) = buffer
step_buffer m buffer (Ok (Some taken)) = buffer_after (answer_line m taken) buffer
step_buffer m buffer (Err refusal) = buffer_after (Stop refusal) buffer

-- a buffer in which some line would not fit refuses the step before all else, and nothing changes
abbrev pub result_of_step : State → List ℕ → List ℕ → Result Outcome BufferRefusal
result_of_step m input buffer = cond (nat_lt (length buffer) line_max) (Err Short) (Ok (step_outcome m (decode_of input)))

abbrev pub state_after_step : State → List ℕ → List ℕ → State
state_after_step m input buffer = cond (nat_lt (length buffer) line_max) m (step_state m (decode_of input))

abbrev pub buffer_after_step : State → List ℕ → List ℕ → List ℕ
buffer_after_step m input buffer = cond (nat_lt (length buffer) line_max) buffer (step_buffer m buffer (decode_of input))
