use Rattle.rows.proofs.Checked.{follows_last}
use Rattle.rows.proofs.check.follows.Goals as goal

pub returns-in-Some : goal.returns-in-Some
returns-in-Some c =
    let here = c.in-Some.ensures.item in
    let after = follows_last c.args.earlier.now c.args.row.now c.in-Some.last.now here.3.0 in
    cc
