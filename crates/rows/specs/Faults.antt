-- The numbers of a table's refusals on the card.
use Rattle.std.specs.Prelude.{ℕ}
use Rattle.rows.specs.declared.fault.TableFault.{TableFault}
use Rattle.rows.specs.declared.fault.TableFault.TheVariants.{TooManyRows, Kind, Span, Number, Order, Counter, Partner}

abbrev pub number_of : TableFault → ℕ
number_of TooManyRows = 10
number_of Kind = 11
number_of Span = 12
number_of Number = 13
number_of Order = 14
number_of Counter = 15
number_of Partner = 16
