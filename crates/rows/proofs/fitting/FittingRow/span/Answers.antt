use Rattle.rows.proofs.Spans.{span_within}
use Rattle.rows.proofs.fitting.FittingRow.span.Goals as goal

pub invariant_of-result : goal.invariant_of-result
invariant_of-result c =
    let row = c.args.self.now in
    let within = span_within row.listed row.right_span in record { ordered = within.0; within_register = within.1 }
