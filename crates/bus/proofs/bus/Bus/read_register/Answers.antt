use Rattle.std.proofs.Common.{◌≡◌, is_some, ap, arith}
use Rattle.std.proofs.lemmas.Result.{err_from_is_err_and}
use Rattle.bus.proofs.Reached.{read_after, read_data, read_not_refused, read_refused}
use Rattle.bus.proofs.bus.Bus.read_register.Goals as goal

-- the address frame is refused
pub returns-in_err-send : goal.returns-in_err-send
returns-in_err-send g c =
    let exit = err_from_is_err_and c.from_residual.result c.from_residual.ensures.1 in
    let first = c.in_err-send.ensures in
    let before = g.B.Bank.slots c.args.self.now.bank in
    let between = g.B.Bank.slots c.send.new.self.bank in
    let refused = read_refused c.args.address c.args.register before between first.slots c.in_err-send.field-0.0 first.answer in
    record { answer = rw (exit.1, exit.2) refused.0; slots = refused.1; frames = rw exit.1 first.frames }

-- the read frame is not, after that
pub returns-in_err-data : goal.returns-in_err-data
returns-in_err-data g c =
    let first = c.in_ok-send.ensures in
    let second = c.in_err-data.ensures in
    let before = g.B.Bank.slots c.args.self.now.bank in
    let between = g.B.Bank.slots c.send.new.self.bank in
    absurd (read_not_refused c.args.address c.args.register before between first.slots c.in_ok-send.field-0 first.answer c.in_err-data.field-0.0 second.answer)

pub unwrap-requires : goal.unwrap-requires
unwrap-requires g c =
    let first = c.in_ok-send.ensures in
    let second = c.in_ok-data.ensures in
    let before = g.B.Bank.slots c.args.self.now.bank in
    let between = g.B.Bank.slots c.send.new.self.bank in
    ap is_some (read_data c.args.address c.args.register before between first.slots c.in_ok-send.field-0 first.answer c.in_ok-data.data second.answer).1

pub returns : goal.returns
returns g c =
    let first = c.in_ok-send.ensures in
    let second = c.in_ok-data.ensures in
    let before = g.B.Bank.slots c.args.self.now.bank in
    let between = g.B.Bank.slots c.send.new.self.bank in
    let answered = read_data c.args.address c.args.register before between first.slots c.in_ok-send.field-0 first.answer c.in_ok-data.data second.answer in
    let word : c.unwrap.result ≡ answered.0 = cc (c.unwrap.ensures, answered.1) in
    record {
      answer = rw word answered.2;
      slots = read_after c.args.address c.args.register before between first.slots (g.B.Bank.slots c.send-2.new.self.bank) second.slots;
      frames = omega (arith, first.frames, second.frames);
    }
