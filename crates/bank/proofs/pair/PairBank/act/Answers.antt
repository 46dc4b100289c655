use Rattle.std.proofs.Common.{◌≡◌, ◌-◌, ◌<◌, ◌≤◌, ◌++◌, length, sym, ap, ◌∙◌, arith}
use Rattle.bank.specs.Deeds.{after_at, done_at}
use Rattle.bank.proofs.Sides.{after_left, after_right, done_left, done_right}
use Rattle.bank.proofs.pair.PairBank.act.Goals as goal

pub returns-then-number-count : goal.returns-then-number-count
returns-then-number-count g c =
    let p = c.args.self.now in
    let xs = g.L.Bank.slots p.left in
    let ys = g.R.Bank.slots p.right in
    let within : c.args.slot < length xs = omega arith in
    record {
      answer = c.act.ensures.answer ∙ sym (done_left c.args.deed c.args.slot xs ys within);
      after = ap (λ l. l ++ ys) c.act.ensures.after ∙ sym (after_left c.args.deed c.args.slot xs ys within);
    }

pub returns : goal.returns
returns g c =
    let p = c.args.self.now in
    let xs = g.L.Bank.slots p.left in
    let ys = g.R.Bank.slots p.right in
    let past : length xs ≤ c.args.slot = omega arith in
    let number : c.from-number.result - c.count-count.result ≡ c.args.slot - length xs = omega arith in
    record {
      answer = c.act-2.ensures.answer ∙ ap (λ k. done_at k c.args.deed ys) number ∙ sym (done_right c.args.deed c.args.slot xs ys past);
      after = ap (λ l. xs ++ l) (c.act-2.ensures.after ∙ ap (λ k. after_at k c.args.deed ys) number) ∙ sym (after_right c.args.deed c.args.slot xs ys past);
    }
