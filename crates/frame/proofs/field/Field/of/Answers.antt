use Rattle.std.proofs.Common.{◌-◌, ◌/◌, ◌^◌, ap, ◌∙◌, arith}
use lib.Bits.{bit_and}
use Rattle.std.proofs.lemmas.Nat.{and_mask, one_shl}
use Rattle.frame.proofs.field.Field.of.Goals as goal

pub returns : goal.returns
returns c =
    let shifted = c.args.word / 2 ^ c.args.self.low in
    ap (λ m. bit_and shifted (m - 1)) (one_shl c.args.self.width 32 (omega arith))
    ∙ and_mask shifted c.args.self.width
