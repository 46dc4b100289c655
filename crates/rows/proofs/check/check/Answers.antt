use Rattle.std.proofs.lemmas.Result.{err_from_is_err_and}
use Rattle.std.proofs.Common.{Some, None}
use Rattle.rows.proofs.Checked.{fault_by_slots, fault_of_rows, fault_too_many}
use Rattle.rows.proofs.check.check.Goals as goal

pub returns-then-too_many : goal.returns-then-too_many
returns-then-too_many c = fault_too_many c.args.rows.now c.if-too_many.ensures

pub returns-in_err-slots : goal.returns-in_err-slots
returns-in_err-slots c =
    let p = err_from_is_err_and c.from_residual.result c.from_residual.ensures.1 in
    rw (p.1, p.2) (fault_of_rows c.args.rows.now c.in_err-slots.field-0.0 c.if-too_many.ensures c.in_err-slots.ensures)

pub returns-in-Some : goal.returns-in-Some
returns-in-Some c =
    fault_by_slots c.args.rows.now c.in_ok-slots.slots (Some c.in-Some.place) c.if-too_many.ensures c.in_ok-slots.ensures c.in-Some.ensures

pub returns-in-None : goal.returns-in-None
returns-in-None c = (
  fault_by_slots c.args.rows.now c.in_ok-slots.slots None c.if-too_many.ensures c.in_ok-slots.ensures c.in-None.ensures,
  c.in_ok-slots.ensures.1,
)
