use Rattle.std.proofs.Common.{get_or, ap, arith}
use Rattle.table_mmd.proofs.Walks.{each_more}
use Rattle.table_mmd.proofs.walk.change_all.Goals as goal

pub loop-item-preserved : goal.loop-item-preserved
loop-item-preserved g c =
    let ys = c.loop-item.items in
    let i = c.loop-item.item-index in
    let so_far = c.loop-item.invariant.2 in
    let here = ap (λ d. get_or ys i d) c.item-item.is in (
      c.loop-item.invariant.0,
      omega arith,
      each_more _ c.args.items.now ys so_far.0 i _ c.change.result c.loop-item-test.true so_far.1 so_far.2 here c.change.ensures,
    )
