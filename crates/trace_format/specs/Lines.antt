-- The line of text, in ASCII, that answers a record of a trace.
use Rattle.std.specs.Prelude.{ℕ, zero, suc, ◌/◌, ◌%◌, ◌^◌, cond, List, [], ◌∷◌, ◌++◌, length, drop, Ok, Err, codes, Result, nat_lt}
use Rattle.std.specs.Char.{digit_char}
use Rattle.call.specs.Answers.{number_of}
use Rattle.call.specs.declared.answer.Answer.TheVariants.{Data, Told, Done, Refused}
use Rattle.trace_format.specs.declared.line.Line.{Line}
use Rattle.trace_format.specs.declared.line.Line.TheVariants.{Answer, Stop}
use Rattle.trace_format.specs.declared.refusal.BufferRefusal.{BufferRefusal}
use Rattle.trace_format.specs.declared.refusal.BufferRefusal.TheVariants.{Short}
use Rattle.trace_format.specs.Numbers.{trace_number}

-- the last digits of a number in a base, as many as the width, the highest first; those above 9 are small letters
abbrev pub digits : ℕ → ℕ → ℕ → List ℕ
digits base zero n = []
digits base (suc width) n = digit_char (n / base ^ width % base) ∷ digits base width n

-- each line ends with a newline
abbrev pub newline : List ℕ
newline = 10 ∷ []

abbrev pub line_of : Line → List ℕ
line_of (Answer (Data word)) = codes "R " ++ (digits 16 4 word ++ newline)
line_of (Answer (Told word)) = codes "T " ++ (digits 16 8 word ++ newline)
line_of (Answer Done) = codes "V" ++ newline
line_of (Answer (Refused e)) = codes "E " ++ (digits 10 2 (number_of e) ++ newline)
line_of (Stop e) = codes "X " ++ (digits 10 2 (trace_number e) ++ newline)

-- the length of the longest line
abbrev pub line_max : ℕ
line_max = 11

-- what writing a line answers: the line's length, or a refusal where some line would not fit the buffer
abbrev pub line_result : Line → List ℕ → Result ℕ BufferRefusal
line_result line buffer = cond (nat_lt (length buffer) line_max) (Err Short) (Ok (length (line_of line)))

-- the buffer after it: a line stands at its start, and the bytes behind the line stay
abbrev pub buffer_after : Line → List ℕ → List ℕ
buffer_after line buffer =
    cond (nat_lt (length buffer) line_max) buffer (line_of line ++ drop (length (line_of line)) buffer)
