use Rattle.std.proofs.Common.{◌*◌, ◌%◌, ◌^◌, ap, ◌∙◌, arith}
use lib.Bits.{bit_or}
use Rattle.std.proofs.lemmas.Nat.{one_shl}
use Rattle.std.proofs.lemmas.Bool.Decides.{nat_tests}
use Rattle.bits.specs.Bits.{bit}
use Rattle.bits.proofs.Bits.{bit_of_or, bit_of_xor, bit_power}
use Rattle.bits.proofs.with_bit.Goals as goal

pub returns-then-one : goal.returns-then-one
returns-then-one c k =
    let flag = (1 * 2 ^ c.args.place) % 4294967296 in
    let only = ap (λ n. bit n k) (one_shl c.args.place 32 (omega arith)) ∙ bit_power c.args.place k in
    let or = bit_of_or c.args.word flag k in
    grind (arith, nat_tests)

pub returns-else-one : goal.returns-else-one
returns-else-one c k =
    let flag = (1 * 2 ^ c.args.place) % 4294967296 in
    let only = ap (λ n. bit n k) (one_shl c.args.place 32 (omega arith)) ∙ bit_power c.args.place k in
    let or = bit_of_or c.args.word flag k in
    let xor = bit_of_xor (bit_or c.args.word flag) flag k in
    grind (arith, nat_tests)
