use Rattle.std.proofs.Common.{◌≡◌, ◌≤◌, ◌++◌, length, drop, vec_items, vec_len, vec_capacity}
use Rattle.promise.specs.Rules.{after_calls, answers_of}
use Rattle.station.specs.Stations.{state_of}
use Rattle.station.proofs.run.run.Given as goal

-- what is answered and what remains, together, is what a run from here answers and leaves
abbrev pub invariant-loop-call : goal.invariant-loop-call
invariant-loop-call g l =
    (vec_len l.answers ≡ l.call-index)
    × (length l.calls ≤ vec_capacity l.answers)
    × (answers_of (state_of g.B.Bank.slots l.initial.station) l.calls
    ≡ vec_items l.answers ++ answers_of (state_of g.B.Bank.slots l.station) (drop l.call-index l.calls))
    × (after_calls (state_of g.B.Bank.slots l.initial.station) l.calls
    ≡ after_calls (state_of g.B.Bank.slots l.station) (drop l.call-index l.calls))
