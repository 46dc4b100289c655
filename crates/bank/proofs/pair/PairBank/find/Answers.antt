use Rattle.std.proofs.Common.{sym, ◌∙◌}
use Rattle.bank.specs.Searches.{is_wanted}
use Rattle.bank.proofs.Sides.{found_left, found_right}
use Rattle.bank.proofs.pair.PairBank.find.Goals as goal

pub returns-in-Some : goal.returns-in-Some
returns-in-Some g c =
    let p = c.args.self.now in
    found_left (is_wanted c.args.wanted) (g.L.Bank.slots p.left) (g.R.Bank.slots p.right) c.in-Some.slot (sym c.in-Some.ensures)

pub returns : goal.returns
returns g c =
    let p = c.args.self.now in
    c.behind.ensures
    ∙ found_right (is_wanted c.args.wanted) (g.L.Bank.slots p.left) (g.R.Bank.slots p.right) c.count.result c.find-2.result (sym c.in_default.ensures) c.count.ensures c.find-2.ensures
