use Rattle.std.proofs.Common.{◌≤◌, length, ap, rules}
use Rattle.trace_format.specs.Records.{plain_read_in}
use Rattle.trace_format.proofs.Fronts.{front}
use Rattle.trace_format.proofs.record.plain_read.Goals as goal

pub returns : goal.returns
returns c =
    let long : 4 ≤ length c.args.fields.now = search rules in
    let e = ap plain_read_in (front 4 c.args.fields.now long) in
    cc
