-- What the tests of a row alone give.
use Rattle.std.specs.Prelude.{◌≡◌, List, None, Some, Ok, Err, Result}
use Rattle.rows.specs.Checks.{own_fault, row_fault}
use Rattle.rows.specs.declared.fault.TableFault.{TableFault}
use Rattle.rows.specs.declared.fitting.FittingRow.{FittingRow}
use Rattle.rows.specs.declared.row.Row.{Row}

-- the row itself, or the first rule of its own that it breaks
abbrev pub Fits : Row → Result FittingRow TableFault → Type 0
Fits row (Ok fitting) = (own_fault row ≡ None) × (fitting.listed ≡ row)
Fits row (Err fault) = own_fault row ≡ Some fault

-- and the same behind earlier rows
abbrev pub Passes : List Row → Row → Result FittingRow TableFault → Type 0
Passes earlier row (Ok fitting) = (row_fault earlier row ≡ None) × (fitting.listed ≡ row)
Passes earlier row (Err fault) = row_fault earlier row ≡ Some fault
