use Rattle.std.proofs.Common.{arith}
use Rattle.std.proofs.lemmas.Bool.Decides.{nat_tests}
use Rattle.table_mmd.proofs.Spans.{put_bits}
use Rattle.table_mmd.proofs.span.put.Goals as goal

pub returns : goal.returns
returns c b =
    let bits = put_bits c.args.span.low c.args.span.high c.from.result b c.args.span.ordered c.args.span.within_register (omega arith) in
    grind (arith, nat_tests)
