use Rattle.std.proofs.Common.{◌≤◌, length, ap, rules}
use Rattle.trace_format.specs.Records.{write_in}
use Rattle.trace_format.proofs.Fronts.{front}
use Rattle.trace_format.proofs.record.write.Goals as goal

pub returns : goal.returns
returns c =
    let long : 6 ≤ length c.args.fields.now = search rules in
    let e = ap write_in (front 6 c.args.fields.now long) in
    cc
