-- Rows in rising order.
use Rattle.std.specs.Prelude.{Bool, true, ◌&&◌, ◌||◌, List, [], ◌∷◌, ◌==◌, nat_lt}
use Rattle.rows.specs.declared.row.Row.{Row}

-- rows rise: by register, and within one register by their spans
abbrev pub in_order : Row → Row → Bool
in_order a b = nat_lt a.register b.register || (a.register == b.register && nat_lt a.high b.low)

abbrev pub rising_after : Row → List Row → Bool
rising_after a [] = true
rising_after a (b ∷ rest) = in_order a b && rising_after b rest

abbrev pub rising : List Row → Bool
rising [] = true
rising (row ∷ rest) = rising_after row rest
