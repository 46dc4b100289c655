use Rattle.std.proofs.Common.{◌≡◌, ◌+◌, ◌-◌, ◌*◌, ◌≤◌, ◌++◌, length, drop, vec_items, vec_len, vec_capacity}
use Rattle.trace.specs.Traces.{lines_of}
use Rattle.trace.proofs.text.write_text.Given as goal

abbrev pub invariant-loop-answer : goal.invariant-loop-answer
invariant-loop-answer l =
    (vec_items l.initial.text ++ lines_of l.answers ≡ vec_items l.text ++ lines_of (drop l.answer-index l.answers))
    × (vec_len l.text + 11 * (length l.answers - l.answer-index) + 11 ≤ vec_capacity l.text)
