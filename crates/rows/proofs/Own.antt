-- The tests of a row alone, one after another.
use Rattle.std.proofs.Common.{◌≡◌, ◌+◌, ◌-◌, ◌≤◌, ◌&&◌, true, false, nat_le, is_ok, is_some, Some, None, Result, arith}
use Rattle.std.proofs.lemmas.Bool.Decides.{nat_tests}
use Rattle.rows.specs.Checks.{kind_listed, own_fault}
use Rattle.rows.specs.Fitting.{Fits}
use Rattle.rows.specs.Layouts.{WellFormed}
use Rattle.rows.specs.declared.fitting.FittingRow.{FittingRow}
use Rattle.rows.specs.Rows.{content_of, number_suits, span_fits, span_suits}
use Rattle.rows.specs.declared.fault.TableFault.{TableFault}
use Rattle.rows.specs.declared.fault.TableFault.TheVariants.{Kind, Span, Number}
use Rattle.rows.specs.declared.fitting.FittingRow.{FittingRow}
use Rattle.rows.specs.declared.row.Content.{Content}
use Rattle.rows.specs.declared.row.Row.{Row}

-- a kind is listed exactly if it has a content
pub kind_has_content : (row : Row) → kind_listed row ≡ is_some (content_of row)
unfolding content_of
kind_has_content row = grind (arith, nat_tests)

pub fault_of_kind : (row : Row) → content_of row ≡ None → own_fault row ≡ Some Kind
fault_of_kind row none = let listed = kind_has_content row in grind (arith, nat_tests)

pub fault_of_span : (row : Row) (content : Content) → content_of row ≡ Some content → ((nat_le row.low row.high && nat_le row.high 15) && span_suits row.low row.high content) ≡ false → own_fault row ≡ Some Span
unfolding span_fits
fault_of_span row content is wrong = let listed = kind_has_content row in grind (arith, nat_tests)

pub span_fits_from : (row : Row) (content : Content) → content_of row ≡ Some content → row.low ≤ row.high → row.high ≤ 15 → span_suits row.low row.high content ≡ true → span_fits row ≡ true
unfolding span_fits
span_fits_from row content is ordered within suits = grind (arith, nat_tests)

pub fault_of_number : (row : Row) (content : Content) → content_of row ≡ Some content → span_fits row ≡ true → number_suits (row.high + 1 - row.low) row.number content ≡ false → own_fault row ≡ Some Number
fault_of_number row content is fits wrong = let listed = kind_has_content row in grind (arith, nat_tests)

pub no_fault : (row : Row) (content : Content) → content_of row ≡ Some content → span_fits row ≡ true → number_suits (row.high + 1 - row.low) row.number content ≡ true → own_fault row ≡ None
no_fault row content is fits suits = let listed = kind_has_content row in grind (arith, nat_tests)

-- so a well-formed row fits
pub well_formed_fits : (row : Row) (r : Result FittingRow TableFault) → WellFormed row → Fits row r → is_ok r ≡ true
well_formed_fits row r formed fits = grind (arith, nat_tests)
