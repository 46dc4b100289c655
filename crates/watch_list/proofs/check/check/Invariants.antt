use Rattle.std.proofs.Common.{◌≡◌, ◌≤◌, [], length, take, drop}
use Rattle.watch_list.specs.Checks.{check_behind}
use Rattle.watch_list.proofs.check.check.Given as goal

abbrev pub invariant-loop-place : goal.invariant-loop-place
invariant-loop-place l =
    (l.place ≤ length l.entries) × (check_behind [] l.entries ≡ check_behind (take l.place l.entries) (drop l.place l.entries))
