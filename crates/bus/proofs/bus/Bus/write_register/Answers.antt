use Rattle.std.proofs.Common.{arith}
use Rattle.std.proofs.lemmas.Result.{err_from_is_err_and}
use Rattle.bus.proofs.Reached.{write_after, write_not_refused, write_refused, write_taken}
use Rattle.bus.proofs.bus.Bus.write_register.Goals as goal

-- the address frame is refused
pub returns-in_err-send : goal.returns-in_err-send
returns-in_err-send g c =
    let exit = err_from_is_err_and c.from_residual.result c.from_residual.ensures.1 in
    let first = c.in_err-send.ensures in
    let before = g.B.Bank.slots c.args.self.now.bank in
    let between = g.B.Bank.slots c.send.new.self.bank in
    let refused = write_refused c.args.address c.args.register before between first.slots c.args.word c.in_err-send.field-0.0 first.answer in
    record { answer = rw (exit.1, exit.2) refused.0; slots = refused.1; frames = rw exit.1 first.frames }

-- the write frame is not, after that
pub returns-in_err-send-2 : goal.returns-in_err-send-2
returns-in_err-send-2 g c =
    let first = c.in_ok-send.ensures in
    let second = c.in_err-send-2.ensures in
    let before = g.B.Bank.slots c.args.self.now.bank in
    let between = g.B.Bank.slots c.send.new.self.bank in
    absurd (write_not_refused c.args.address c.args.register before between first.slots c.in_ok-send.field-0 first.answer c.args.word c.in_err-send-2.field-0.0 second.answer)

pub returns : goal.returns
returns g c =
    let first = c.in_ok-send.ensures in
    let second = c.in_ok-send-2.ensures in
    let before = g.B.Bank.slots c.args.self.now.bank in
    let between = g.B.Bank.slots c.send.new.self.bank in
    record {
      answer = write_taken c.args.address c.args.register before between first.slots c.in_ok-send.field-0 first.answer;
      slots = write_after c.args.address c.args.register before between first.slots c.args.word (g.B.Bank.slots c.send-2.new.self.bank) second.slots;
      frames = omega (arith, first.frames, second.frames);
    }
