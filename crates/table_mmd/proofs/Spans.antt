-- A value shifted into a row's span, bit by bit.
use Rattle.std.proofs.Common.{◌≡◌, ℕ, ◌+◌, ◌-◌, ◌*◌, ◌/◌, ◌%◌, ◌^◌, ◌<◌, ◌≤◌, ◌&&◌, ltb, leb, ap, ◌∙◌, ⊎_elim, arith}
use lib.Bits.{bit_and}
use Rattle.std.proofs.lemmas.Nat.{shl_whole}
use Rattle.std.proofs.lemmas.Bool.{cases_lt}
use Rattle.std.proofs.lemmas.Bool.Decides.{nat_tests}
use Rattle.bits.specs.Bits.{bit}
use Rattle.bits.proofs.Bits.{bit_of_and, bit_shl, bit_shl_below, bit_shr, bit_ones}

pub put_bits : (low high v b : ℕ) → low ≤ high → high ≤ 15 → v < 65536
    → bit (bit_and ((v * 2 ^ low) % 2 ^ 32) (bit_and (65535 / 2 ^ (15 - high)) ((65535 * 2 ^ low) % 2 ^ 32))) b ≡ ((leb low b && leb b high) && bit v (b - low))
put_bits low high v b order within small =
    let x = ap (λ n. bit n b) (shl_whole v 16 low 32 small (omega arith)) in
    let y = ap (λ n. bit n b) (shl_whole 65535 16 low 32 (omega arith) (omega arith)) in
    let z = bit_shr 65535 (15 - high) b ∙ bit_ones (15 - high + b) in
    let both = bit_of_and ((v * 2 ^ low) % 2 ^ 32) (bit_and (65535 / 2 ^ (15 - high)) ((65535 * 2 ^ low) % 2 ^ 32)) b in
    let inner = bit_of_and (65535 / 2 ^ (15 - high)) ((65535 * 2 ^ low) % 2 ^ 32) b in
    ⊎_elim
    (λ (under : b < low). let none = bit_shl_below v low b under in grind (arith, nat_tests))
    (λ (over : low ≤ b).
    let p = b - low in
    let e : b ≡ low + p = omega arith in
    let from : bit (v * 2 ^ low) b ≡ bit v p = ap (bit (v * 2 ^ low)) e ∙ bit_shl v low p in
    let ones : bit (65535 * 2 ^ low) b ≡ ltb p 16 = ap (bit (65535 * 2 ^ low)) e ∙ bit_shl 65535 low p ∙ bit_ones p in
    grind (arith, nat_tests))
    (cases_lt b low)
