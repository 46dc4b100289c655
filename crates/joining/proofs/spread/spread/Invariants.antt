use Rattle.std.proofs.Common.{◌≡◌, ◌≤◌, ◌++◌, map, length, take, drop}
use Rattle.joining.proofs.spread.spread.Given as goal

abbrev pub invariant-loop-kept : goal.invariant-loop-kept
invariant-loop-kept g l =
    (l.kept-index ≤ length l.initial.words)
    × (l.words ≡ map (λ kept. g.J.Joining.joined kept l.word) (take l.kept-index l.initial.words) ++ drop l.kept-index l.initial.words)
