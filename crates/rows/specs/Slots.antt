-- The counters of a table: where the rows place them, and what each call does to them.
use Rattle.std.specs.Prelude.{ℕ, Bool, true, Some, None, Option, nat_le}
use Rattle.mmd.specs.Cells.{Field, no_field, short_field, long_field}
use Rattle.rows.specs.declared.slot.Places.{Places}
use Rattle.rows.specs.declared.slot.ShortPlace.{ShortPlace}
use Rattle.rows.specs.declared.slot.CounterSlot.{CounterSlot}

abbrev pub nowhere : Places
nowhere = record { short = None; high = None; low = None }

-- a counter that no row names
abbrev pub empty_slot : CounterSlot
empty_slot = record { places = nowhere; counter = record { value = 0; held = 0 } }

-- the field of a counter that these rows name: a short field, or a half of each sort
abbrev pub field_in : Option ShortPlace → Option ℕ → Option ℕ → Field
field_in (Some s) h l = short_field s.register s.low s.width
field_in None None l = no_field
field_in None (Some h) None = no_field
field_in None (Some h) (Some l) = long_field h l

abbrev pub field_of : Places → Field
field_of p = field_in p.short p.high p.low

-- a short field is no wider than a register
abbrev pub narrow_short : Option ShortPlace → Bool
narrow_short None = true
narrow_short (Some s) = nat_le s.width 16
