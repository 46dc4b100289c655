use Rattle.std.proofs.Common.{◌≡◌, Some, None, sym, refl, ◌∙◌, arith}
use Rattle.std.proofs.lemmas.Bool.Decides.{nat_tests}
use Rattle.std.proofs.lemmas.Result.{err_from_is_err_and}
use Rattle.rows.specs.Rows.{content_of}
use Rattle.rows.proofs.Own.{fault_of_kind, fault_of_number, fault_of_span, no_fault, span_fits_from}
use Rattle.rows.proofs.fitting.FittingRowTryFromRow.try_from.Goals as goal

pub returns-in_err-content : goal.returns-in_err-content
returns-in_err-content c =
    let exit = err_from_is_err_and c.from_residual.result c.from_residual.ensures.1 in
    let none : content_of c.args.row ≡ None = sym c.content.ensures ∙ c.in_err-content.ensures.ok_part in
    let fault = fault_of_kind c.args.row none in
    let told = c.in_err-content.ensures.value in
    rw (exit.1, exit.2) (grind (arith, nat_tests))

pub returns-in_err-span : goal.returns-in_err-span
returns-in_err-span c =
    let exit = err_from_is_err_and c.from_residual-in_err-span.result c.from_residual-in_err-span.ensures.1 in
    let is : content_of c.args.row ≡ Some c.in_ok-content.content = sym c.content.ensures ∙ c.in_ok-content.ensures.ok_part in
    let none = c.in_err-span.ensures.ok_part in
    let told = c.in_err-span.ensures.value in
    let within = c.new.ensures.within in
    let fault = fault_of_span c.args.row c.in_ok-content.content is (grind (arith, nat_tests)) in
    rw (exit.1, exit.2) (grind (arith, nat_tests))

pub returns-then-not-span_suits : goal.returns-then-not-span_suits
returns-then-not-span_suits c =
    let is : content_of c.args.row ≡ Some c.in_ok-content.content = sym c.content.ensures ∙ c.in_ok-content.ensures.ok_part in
    let bounds = rw c.in_ok-span.ensures.ok_part at c.new.ensures.bounds in
    fault_of_span c.args.row c.in_ok-content.content is (grind (arith, nat_tests))

pub returns-then-not-number_suits : goal.returns-then-not-number_suits
returns-then-not-number_suits c =
    let is : content_of c.args.row ≡ Some c.in_ok-content.content = sym c.content.ensures ∙ c.in_ok-content.ensures.ok_part in
    let bounds = rw c.in_ok-span.ensures.ok_part at c.new.ensures.bounds in
    let ordered = c.in_ok-span.span.ordered in
    let within = c.in_ok-span.span.within_register in
    let fits = span_fits_from c.args.row c.in_ok-content.content is (grind arith) (grind arith) (grind (arith, nat_tests)) in
    fault_of_number c.args.row c.in_ok-content.content is fits (grind (arith, nat_tests))

pub invariant_of-result : goal.invariant_of-result
invariant_of-result c =
    let is : content_of c.args.row ≡ Some c.in_ok-content.content = sym c.content.ensures ∙ c.in_ok-content.ensures.ok_part in
    let bounds = rw c.in_ok-span.ensures.ok_part at c.new.ensures.bounds in
    let ordered = c.in_ok-span.span.ordered in
    let within = c.in_ok-span.span.within_register in
    record {
      right_content = is;
      right_span = span_fits_from c.args.row c.in_ok-content.content is (grind arith) (grind arith) (grind (arith, nat_tests));
      right_number = grind (arith, nat_tests);
    }

pub returns : goal.returns
returns c =
    let is : content_of c.args.row ≡ Some c.in_ok-content.content = sym c.content.ensures ∙ c.in_ok-content.ensures.ok_part in
    let bounds = rw c.in_ok-span.ensures.ok_part at c.new.ensures.bounds in
    let ordered = c.in_ok-span.span.ordered in
    let within = c.in_ok-span.span.within_register in
    let fits = span_fits_from c.args.row c.in_ok-content.content is (grind arith) (grind arith) (grind (arith, nat_tests)) in
    (no_fault c.args.row c.in_ok-content.content is fits (grind (arith, nat_tests)), refl)
