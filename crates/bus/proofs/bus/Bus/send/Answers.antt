use Rattle.std.proofs.Common.{rules, ◌≡◌, Err, sym, ◌∙◌}
use Rattle.frame.specs.declared.frame.Frame.{Frame}
use Rattle.bus.specs.declared.answer.BusRefusal.TheVariants.{Frame as NoFrame}
use Rattle.bus.proofs.Sent.{built_after, built_sent, unbuilt_after, unbuilt_sent}
use Rattle.bus.proofs.bus.Bus.send.Goals as goal

pub returns-in_err-word-clause-answer : goal.returns-in_err-word-clause-answer
returns-in_err-word-clause-answer g c =
    let f : Frame = record { address = c.args.address; operation = c.args.operation } in
    let refused : c.from_residual.result ≡ Err (NoFrame c.in_err-word.field-0.0) = search rules in
    refused ∙ unbuilt_sent f c.in_err-word.field-0.0 (g.B.Bank.slots c.args.self.now.bank) (sym c.in_err-word.ensures.result)

pub returns-in_err-word-clause-slots : goal.returns-in_err-word-clause-slots
returns-in_err-word-clause-slots g c =
    let f : Frame = record { address = c.args.address; operation = c.args.operation } in
    unbuilt_after f c.in_err-word.field-0.0 (g.B.Bank.slots c.args.self.now.bank) (sym c.in_err-word.ensures.result)

pub returns-clause-answer : goal.returns-clause-answer
returns-clause-answer g c =
    let f : Frame = record { address = c.args.address; operation = c.args.operation } in
    let built = c.in_ok-word.ensures in
    c.take_word.ensures.answer ∙ built_sent f c.in_ok-word.word (g.B.Bank.slots c.args.self.now.bank) (sym built.result) built.splits_back

pub returns-clause-slots : goal.returns-clause-slots
returns-clause-slots g c =
    let f : Frame = record { address = c.args.address; operation = c.args.operation } in
    let built = c.in_ok-word.ensures in
    c.take_word.ensures.slots ∙ built_after f c.in_ok-word.word (g.B.Bank.slots c.args.self.now.bank) (sym built.result) built.splits_back
