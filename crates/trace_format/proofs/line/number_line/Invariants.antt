use Rattle.std.proofs.Common.{◌≡◌, ◌-◌, ◌/◌, ◌^◌, ◌++◌, length, get_or, drop}
use Rattle.trace_format.specs.Lines.{digits, newline}
use Rattle.trace_format.proofs.line.number_line.Given as goal

-- the last digits stand before the newline, and the rest of the number is what is above them
abbrev pub invariant-loop-place : goal.invariant-loop-place
invariant-loop-place g l =
    (length l.line ≡ g.row.N)
    × (get_or l.line 0 0 ≡ l.letter)
    × (get_or l.line 1 0 ≡ 32)
    × (drop (g.row.N - 1 - l.place) l.line ≡ digits l.base l.place l.number ++ newline)
    × (l.rest ≡ l.number / l.base ^ l.place)
