-- A field beside those above it: `|` adds it.
use Rattle.std.proofs.Common.{◌≡◌, ℕ, ◌+◌, ◌*◌, ◌/◌, ◌%◌, ◌^◌, ◌<◌, ◌≤◌, sym, ap, ◌∙◌, subst, add_comm, arith}
use lib.Bits.{bit_or}
use Rattle.std.proofs.lemmas.Nat.{or_shifted, shr_split, shl_below, shl_whole}

-- word is zero below bit low + width, and value fits the width
pub or_field : (low width word value : ℕ) → low + width ≤ 32 → word % 2 ^ (low + width) ≡ 0 → value < 2 ^ width
    → bit_or word ((value * 2 ^ low) % 2 ^ 32) ≡ word + value * 2 ^ low
or_field low width word value inside clear fits =
    let whole : word ≡ word / 2 ^ (low + width) * 2 ^ (low + width) = omega (arith, shr_split word (low + width)) in
    let small : value * 2 ^ low < 2 ^ (low + width) = subst (λ k. value * 2 ^ low < 2 ^ k) (add_comm width low) (shl_below value width low fits) in
    ap (bit_or word) (shl_whole value width low 32 fits (omega arith))
    ∙ ap (λ z. bit_or z (value * 2 ^ low)) whole
    ∙ or_shifted (word / 2 ^ (low + width)) (low + width) (value * 2 ^ low) small
    ∙ ap (λ z. z + value * 2 ^ low) (sym whole)
