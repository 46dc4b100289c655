-- The parts that rows have of counters.
use Rattle.std.specs.Prelude.{ℕ, ◌+◌, ◌-◌, Bool, false, not, ◌||◌, is_some, Some, None, Option}
use Rattle.rows.specs.declared.row.Row.{Row}
use Rattle.rows.specs.declared.row.Content.{Content}
use Rattle.rows.specs.declared.row.Content.TheVariants.{Fixed, Follower, LatchingHigh, LatchingLow, Setting, SelfClearing, ShortCounter, HighHalf, LowHalf}
use Rattle.rows.specs.declared.part.Part.{Part}
use Rattle.rows.specs.declared.part.Part.TheVariants.{Short, High, Low}
use Rattle.rows.specs.declared.slot.Places.{Places}

-- the counter that a content names, and the part of it
abbrev pub counter_named : Content → Option (ℕ × Part)
counter_named (Fixed v) = None
counter_named (Follower l) = None
counter_named (LatchingHigh l) = None
counter_named (LatchingLow l) = None
counter_named (Setting d) = None
counter_named SelfClearing = None
counter_named (ShortCounter k) = Some (k, Short)
counter_named (HighHalf k) = Some (k, High)
counter_named (LowHalf k) = Some (k, Low)

-- what is said by that counter and part, and what where none is named
abbrev pub by_part : {X : Type 0} → X → (ℕ → Part → X) → Option (ℕ × Part) → X
by_part other said None = other
by_part other said (Some named) = said named.0 named.1

-- where a row has a part of a counter
abbrev pub part_place : Row → Part → Places
part_place row Short =
    record { short = Some (record { register = row.register; low = row.low; width = row.high + 1 - row.low }); high = None; low = None }
part_place row High = record { short = None; high = Some row.register; low = None }
part_place row Low = record { short = None; high = None; low = Some row.register }

-- the counter has a field, and this part is not its missing half
abbrev pub part_taken : Places → Part → Bool
part_taken p Short = is_some p.short || (is_some p.high || is_some p.low)
part_taken p High = is_some p.short || is_some p.high
part_taken p Low = is_some p.short || is_some p.low

-- the part is a half whose other half is nowhere
abbrev pub lacks_partner : Places → Part → Bool
lacks_partner p Short = false
lacks_partner p High = not (is_some p.low)
lacks_partner p Low = not (is_some p.high)
