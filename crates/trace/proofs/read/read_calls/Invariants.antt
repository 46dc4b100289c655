use Rattle.std.proofs.Common.{◌≡◌, ◌++◌, length, vec_items}
use Rattle.trace.specs.Traces.{reading_of}
use Rattle.trace.proofs.read.read_calls.Given as goal

abbrev pub invariant-loop-call : goal.invariant-loop-call
invariant-loop-call l =
    ((reading_of l.input).calls ≡ vec_items l.calls ++ (reading_of l.rest).calls)
    × ((reading_of l.input).stop ≡ (reading_of l.rest).stop)

abbrev pub decreases-loop-call : goal.decreases-loop-call
decreases-loop-call l = length l.rest
