use Rattle.std.proofs.Common.{◌≡◌, ◌≤◌, ◌++◌, map, length, take, drop}
use Rattle.table_mmd.specs.Changes.{relatch}
use Rattle.table_mmd.specs.Entries.{HasBits, any_shows}
use Rattle.table_mmd.proofs.change.read_all.Given as goal

abbrev pub invariant-loop-entry : goal.invariant-loop-entry
invariant-loop-entry l =
    (l.entry-index ≤ length l.initial.entries)
    × (l.entries ≡ map (relatch l.live.lines l.register) (take l.entry-index l.initial.entries) ++ drop l.entry-index l.initial.entries)
    × HasBits (any_shows l.live.lines l.live.slots l.register (take l.entry-index l.initial.entries)) l.word
