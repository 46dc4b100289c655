use Rattle.std.proofs.Common.{◌≡◌, ◌≤◌, [], length, take, drop}
use Rattle.rows.specs.Checks.{first_fault, SlotsOf}
use Rattle.rows.proofs.check.place_all.Given as goal

abbrev pub invariant-loop-place : goal.invariant-loop-place
invariant-loop-place l =
    (l.place ≤ length l.rows) × (first_fault [] l.rows ≡ first_fault (take l.place l.rows) (drop l.place l.rows))
    × SlotsOf (take l.place l.rows) l.slots
