-- What the lines of a trace promise: whoever reads a line can tell the answer from it.
use Rattle.std.specs.Prelude.{◌≡◌, ℕ, ◌^◌, ◌<◌, ◌≤◌, ◌⊎◌, List, ◌++◌, length}
use Rattle.std.specs.Str.Parse.{digits_value}
use Rattle.std.specs.Int.{IsInRange}
use Rattle.std.specs.List.{AllByRecursion}
use Rattle.call.specs.Answers.{number_of}
use Rattle.call.specs.declared.answer.Answer.TheVariants.{Data, Told, Done, Refused}
use Rattle.call.specs.declared.answer.CallRefusal.{CallRefusal}
use Rattle.trace_format.specs.declared.line.Line.{Line}
use Rattle.trace_format.specs.declared.line.Line.TheVariants.{Answer, Stop}
use Rattle.trace_format.specs.declared.refusal.TraceRefusal.{TraceRefusal}
use Rattle.trace_format.specs.Lines.{digits, line_max, line_of, newline}
use Rattle.trace_format.specs.Numbers.{trace_number}

-- a word fits its answer: 16 bits of data, 32 bits told
abbrev pub LineFits : Line → Type 0
LineFits (Answer (Data word)) = word < 2 ^ 16
LineFits (Answer (Told word)) = word < 2 ^ 32
LineFits (Answer Done) = Unit {0}
LineFits (Answer (Refused e)) = Unit {0}
LineFits (Stop e) = Unit {0}

-- a digit's character: 0 to 9 or a to f
abbrev pub Digit : ℕ → Type 0
Digit c = IsInRange 48 57 c ⊎ IsInRange 97 102 c

-- The laws of lines.
pub record Telling : Type 0 where
  -- digits are as many as asked for, small, and read back as the number that they write
  pub digits_count : (base width n : ℕ) → length (digits base width n) ≡ width
  pub digits_small : (base width n : ℕ) → 0 < base → base ≤ 16 → AllByRecursion Digit (digits base width n)
  pub digits_read_back : (base width n : ℕ) → 0 < base → base ≤ 16 → n < base ^ width → digits_value base (digits base width n) ≡ n
  -- two decimal digits suffice for every refusal
  pub call_number_below_100 : (e : CallRefusal) → number_of e < 100
  pub trace_number_below_100 : (e : TraceRefusal) → trace_number e < 100
  -- a line is printable text and then its one newline
  pub one_line : (line : Line) → (text : List ℕ) × (line_of line ≡ text ++ newline) × AllByRecursion (λ c. IsInRange 32 126 c) text
  -- no line is longer than the longest
  pub longest : (line : Line) → length (line_of line) ≤ line_max
  -- what is answered can be told from its line: no two answers have the same
  pub told_apart : (a b : Line) → LineFits a → LineFits b → line_of a ≡ line_of b → a ≡ b
