-- OR and AND are associative, and their empty words change nothing: the laws of the latch joining.
use Rattle.std.specs.Prelude.{◌≡◌, ℕ, zero, suc, ◌+◌, ◌^◌, ◌<◌, ◌≤◌}
use Rattle.std.proofs.Common.{ap, ap₂, ◌∙◌, arith, lt_of_lt_of_le, mod-eq_of_lt, pow-suc, pow_mono}
use Rattle.std.specs.Int.Bits.{bit_and, bit_or, and_lt, or_zero_r}
use Rattle.std.proofs.lemmas.Nat.{and_comm, and_mask, or_lt}
use Rattle.std.proofs.lemmas.Bool.Decides.{nat_tests}
use Rattle.bits.proofs.Bits.{bit_of_and, bit_of_or, same_bits}
use Rattle.joining.specs.Words.{latch_empty, LatchFits, latch_joined}
use Rattle.joining.specs.declared.latch.LatchWord.{LatchWord}

-- ---- OR and AND are associative

own_power : (n : ℕ) → n < 2 ^ n
own_power zero = omega arith
own_power (suc n) = let before = own_power n in let double = pow-suc 2 n in omega arith

wide : (n w : ℕ) → n ≤ w → n < 2 ^ w
wide n w h = lt_of_lt_of_le (own_power n) (pow_mono h)

or_assoc : (a b c : ℕ) → bit_or (bit_or a b) c ≡ bit_or a (bit_or b c)
or_assoc a b c =
    let w = a + b + c in
    let p : a < 2 ^ w = wide a w (omega arith) in
    let q : b < 2 ^ w = wide b w (omega arith) in
    let r : c < 2 ^ w = wide c w (omega arith) in
    same_bits w (bit_or (bit_or a b) c) (bit_or a (bit_or b c)) (or_lt w (bit_or a b) c (or_lt w a b p q) r) (or_lt w a (bit_or b c) p (or_lt w b c q r))
    (λ k _. let ab = bit_of_or a b k in let bc = bit_of_or b c k in let left = bit_of_or (bit_or a b) c k in let right = bit_of_or a (bit_or b c) k in grind (arith, nat_tests))

and_assoc : (a b c : ℕ) → bit_and (bit_and a b) c ≡ bit_and a (bit_and b c)
and_assoc a b c =
    let w = a + b + c in
    let p : a < 2 ^ w = wide a w (omega arith) in
    let q : b < 2 ^ w = wide b w (omega arith) in
    let r : c < 2 ^ w = wide c w (omega arith) in
    same_bits w (bit_and (bit_and a b) c) (bit_and a (bit_and b c)) (and_lt w (bit_and a b) c (and_lt w a b p q) r) (and_lt w a (bit_and b c) p (and_lt w b c q r))
    (λ k _. let ab = bit_of_and a b k in let bc = bit_of_and b c k in let left = bit_of_and (bit_and a b) c k in let right = bit_of_and a (bit_and b c) k in grind (arith, nat_tests))

-- ---- the laws of the latch joining

abbrev latch_of : ℕ → ℕ → LatchWord
latch_of any all = record { any = any; all = all }

pub latch_assoc : (a b c : LatchWord) → latch_joined (latch_joined a b) c ≡ latch_joined a (latch_joined b c)
unfolding latch_joined
latch_assoc a b c = ap₂ latch_of (or_assoc a.any b.any c.any) (and_assoc a.all b.all c.all)

ones_keep : (n : ℕ) → n ≤ 65535 → bit_and n 65535 ≡ n
ones_keep n h = and_mask n 16 ∙ mod-eq_of_lt (omega arith)

pub latch_after : (a : LatchWord) → LatchFits a → latch_joined a latch_empty ≡ a
unfolding latch_joined
latch_after a h = ap₂ latch_of (or_zero_r a.any) (ones_keep a.all h.1)

pub latch_before : (a : LatchWord) → LatchFits a → latch_joined latch_empty a ≡ a
unfolding latch_joined
latch_before a h = ap (latch_of a.any) (and_comm 65535 a.all ∙ ones_keep a.all h.1)
