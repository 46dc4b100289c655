use Rattle.std.proofs.Common.{refl, arith}
use Rattle.joining.specs.Words.{latch_joined}
use Rattle.joining.proofs.Words.{latch_joined_fits}
use Rattle.joining.proofs.latch.LatchWordJoining.join.Goals as goal

pub returns : goal.returns
unfolding latch_joined
returns c = record { value = refl; fits = latch_joined_fits c.args.self c.args.more (omega arith, omega arith) (omega arith, omega arith) }
