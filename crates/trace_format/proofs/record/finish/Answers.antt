use Rattle.std.proofs.Common.{◌≤◌, length, ap, rules}
use Rattle.trace_format.specs.Records.{finish_in}
use Rattle.trace_format.proofs.Fronts.{front}
use Rattle.trace_format.proofs.record.finish.Goals as goal

pub returns : goal.returns
returns c =
    let long : 5 ≤ length c.args.fields.now = search rules in
    let e = ap finish_in (front 5 c.args.fields.now long) in
    cc
