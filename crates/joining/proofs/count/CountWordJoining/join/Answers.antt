use Rattle.std.proofs.Common.{rules}
use Rattle.joining.specs.Words.{count_joined}
use Rattle.joining.proofs.count.CountWordJoining.join.Goals as goal

pub returns : goal.returns
unfolding count_joined
returns c = search rules
