-- What working a part of a trace comes to, whatever follows the part.
use Rattle.std.specs.Prelude.{◌≡◌, ℕ, Bool, true, false, List, [], ◌++◌, take, Option, MatchOption}
use Rattle.call.specs.declared.call.Call.{Call}
use Rattle.promise.specs.Rules.{State, after_calls, answers_of}
use Rattle.trace_format.specs.declared.refusal.TraceRefusal.{TraceRefusal}
use Rattle.trace.specs.Traces.{Reading, lines_of, reading_of, text_of}
use Rattle.trace.specs.declared.part.Part.{Part}

-- what may follow a part: anything, but nothing after the last
abbrev pub Follows : Bool → List ℕ → Type 0
Follows true future = future ≡ []
Follows false future = Unit {0}

-- these calls, and then what is read
abbrev pub before : List Call → Reading → Reading
before calls r = record { calls = calls ++ r.calls; stop = r.stop }

-- some of the input's records were worked: their calls left this state and gave this text, and whatever follows the
-- input, its other calls are those of the rest
pub record WorkedSoFar (m : State) (input : List ℕ) (last : Bool) (now_m : State) (rest text : List ℕ) : Type 0 where
  pub front : List ℕ
  pub calls : List Call
  pub splits : input ≡ front ++ rest
  pub state : now_m ≡ after_calls m calls
  pub lines : text ≡ lines_of (answers_of m calls)
  pub ahead : (future : List ℕ) → Follows last future → reading_of (input ++ future) ≡ before calls (reading_of (rest ++ future))

-- the trace is over: its calls left this state, and the text is the whole text of it, whatever follows the input
pub record WorkedToTheEnd (m : State) (input : List ℕ) (last : Bool) (now_m : State) (text : List ℕ) : Type 0 where
  pub calls : List Call
  pub stop : Option TraceRefusal
  pub state : now_m ≡ after_calls m calls
  pub whole_text : text ≡ text_of (answers_of m calls) stop
  pub all : (future : List ℕ) → Follows last future → reading_of (input ++ future) ≡ record { calls = calls; stop = stop }

-- the trace is over, or a rest of the input is left; the text stands at the start of the buffer
abbrev pub WorkedPart : State → List ℕ → Bool → Part → State → List ℕ → Type 0
WorkedPart m input last r now_m buffer =
    MatchOption r.rest (WorkedToTheEnd m input last now_m (take r.written buffer)) (λ rest. WorkedSoFar m input last now_m rest.now (take r.written buffer))
