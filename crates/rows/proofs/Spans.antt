-- What a span that fits its kind is.
use Rattle.std.proofs.Common.{◌≡◌, ◌≤◌, true, Some, arith}
use Rattle.std.proofs.lemmas.Bool.Decides.{nat_tests}
use Rattle.rows.specs.Rows.{content_of, one_bit, span_fits}
use Rattle.rows.specs.declared.row.Content.{Content}
use Rattle.rows.specs.declared.row.Row.{Row}

-- a span that fits its kind lies within the register
pub span_within : (row : Row) → span_fits row ≡ true → (row.low ≤ row.high) × (row.high ≤ 15)
unfolding span_fits
span_within row fits =
    let order : row.low ≤ row.high = grind (arith, nat_tests) in let top : row.high ≤ 15 = grind (arith, nat_tests) in (order, top)

-- and is one bit where the kind asks for one
pub span_one_bit : (row : Row) (content : Content) → content_of row ≡ Some content → span_fits row ≡ true → one_bit content ≡ true → row.low ≡ row.high
unfolding span_fits
span_one_bit row content is fits one = grind (arith, nat_tests)

-- the row that stands at no place, as a loop writes it
abbrev pub zero_row : Row
zero_row = record { register = 0; high = 0; low = 0; kind = 0; number = 0 }
