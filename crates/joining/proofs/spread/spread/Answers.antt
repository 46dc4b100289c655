use Rattle.std.proofs.Common.{arith}
use Rattle.joining.proofs.Walks.{walk_more}
use Rattle.joining.proofs.spread.spread.Goals as goal

pub loop-kept-preserved : goal.loop-kept-preserved
loop-kept-preserved g c =
    let take_in : g.row.J.Denot → g.row.J.Denot = λ kept. g.J.Joining.joined kept c.word_of-word.result in
    (omega arith, walk_more take_in c.args.words.now c.loop-kept.words c.loop-kept.kept-index c.loop-kept.invariant.1 c.kept-item.result c.join.result (omega arith) (omega arith) c.join.ensures.value)
