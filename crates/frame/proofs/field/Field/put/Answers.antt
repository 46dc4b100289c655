use Rattle.std.proofs.Common.{arith}
use Rattle.frame.proofs.Fields.{or_field}
use Rattle.frame.proofs.field.Field.put.Goals as goal

pub returns : goal.returns
returns c = or_field c.args.self.low c.args.self.width c.args.word c.args.value (omega arith) (omega arith) (omega arith)
