use Rattle.std.proofs.Common.{◌≤◌, length, ap, rules}
use Rattle.trace_format.specs.Records.{watch_read_in}
use Rattle.trace_format.proofs.Fronts.{front}
use Rattle.trace_format.proofs.record.watch_read.Goals as goal

pub returns : goal.returns
returns c =
    let long : 2 ≤ length c.args.fields.now = search rules in
    let e = ap watch_read_in (front 2 c.args.fields.now long) in
    cc
