use Rattle.std.proofs.Common.{◌≡◌, ◌≤◌, ◌++◌, length, take, drop}
use Rattle.std.specs.List.{AllZip}
use Rattle.table_mmd.proofs.walk.change_all.Given as goal

abbrev pub invariant-loop-item : goal.invariant-loop-item
invariant-loop-item g l =
    goal.F-IsAlwaysCallable g l.change
    × (l.item-index ≤ length l.initial.items)
    × ((front : _) × (l.items ≡ front ++ drop l.item-index l.initial.items) × AllZip (goal.F-post g l.change) (take l.item-index l.initial.items) front)
