use Rattle.std.proofs.Common.{◌≤◌, length, ap, rules}
use Rattle.trace_format.specs.Records.{line_in}
use Rattle.trace_format.proofs.Fronts.{front}
use Rattle.trace_format.proofs.record.line.Goals as goal

pub returns : goal.returns
returns c =
    let long : 3 ≤ length c.args.fields.now = search rules in
    let e = ap line_in (front 3 c.args.fields.now long) in
    cc
