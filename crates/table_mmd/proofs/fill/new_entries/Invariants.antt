use Rattle.std.proofs.Common.{◌≡◌, ◌≤◌, length, take, vec_items, vec_len, vec_capacity}
use Rattle.table_mmd.specs.Fills.{StartsAs}
use Rattle.table_mmd.proofs.fill.new_entries.Given as goal

abbrev pub invariant-loop-row : goal.invariant-loop-row
invariant-loop-row l =
    (vec_len l.entries ≡ l.row-index) × (length l.rows ≤ vec_capacity l.entries) × StartsAs (take l.row-index l.rows) (vec_items l.entries)
