use Rattle.std.proofs.lemmas.Nat.{and_mask}
use Rattle.bits.proofs.low_half.Goals as goal

pub returns : goal.returns
returns c = and_mask c.args.word 16
