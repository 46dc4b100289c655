use Rattle.worked_examples.proofs.Examples.{worked_examples}
use Rattle.worked_examples.proofs.worked_examples_hold.Goals as goal

pub returns : goal.returns
returns c = worked_examples
