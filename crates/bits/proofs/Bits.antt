-- The laws of `bit` and `gathered`.
use Rattle.std.proofs.Common.{◌≡◌, ℕ, zero, suc, ◌+◌, ◌-◌, ◌*◌, ◌/◌, ◌%◌, ◌^◌, ◌<◌, ◌≤◌, Bool, true, false, cond, not, ◌&&◌, ◌||◌, eqb, ltb, sym, refl, ap, ◌∙◌, ap₂, ⊎_elim, lt_of_lt_of_le, mod-eq_of_lt, mul_assoc, one-mul, pow-suc, zero-mul, one-add, arith, pow_mono}
use native.Mathlib.Nat.{zero-div, div-eq_of_lt, mul-mod_left, mod-one}
use lib.Bits.{bit_and, bit_or, bit_xor, differ, and_step, or_step, xor_step}
use Rattle.std.proofs.lemmas.Nat.{and_shr, or_shr, xor_shr, shr-shr, shl-shr, pow-add, mod-pow-add, or_shifted, pow_below}
use Rattle.std.proofs.lemmas.Bool.{cases_lt, cases_order, eq-eqb, ne_eqb}
use Rattle.std.proofs.lemmas.Bool.Decides.{nat_tests}
use Rattle.bits.specs.Bits.{bit, gathered}

-- ---- a bit of a combination

-- whether just one of two bits is one
abbrev pub differs : Bool → Bool → Bool
differs true b = not b
differs false b = b

digits_differ : (m n : ℕ) → m < 2 → n < 2 → differ m n ≡ cond (differs (eqb m 1) (eqb n 1)) 1 0
digits_differ zero zero p q = refl
digits_differ zero (suc zero) p q = refl
digits_differ (suc zero) zero p q = refl
digits_differ (suc zero) (suc zero) p q = refl
digits_differ zero (suc (suc n)) p q = absurd (omega arith)
digits_differ (suc zero) (suc (suc n)) p q = absurd (omega arith)
digits_differ (suc (suc m)) n p q = absurd (omega arith)

pub bit_zero : (k : ℕ) → bit 0 k ≡ false
unfolding bit
bit_zero k = ap (λ n. eqb (n % 2) 1) (zero-div (2 ^ k))

pub bit_of_or : (a b k : ℕ) → bit (bit_or a b) k ≡ (bit a k || bit b k)
unfolding bit
bit_of_or a b k = let s = or_shr a b k in let t = or_step (a / 2 ^ k) (b / 2 ^ k) in grind (arith, nat_tests)

pub bit_of_and : (a b k : ℕ) → bit (bit_and a b) k ≡ (bit a k && bit b k)
unfolding bit
bit_of_and a b k = let s = and_shr a b k in let t = and_step (a / 2 ^ k) (b / 2 ^ k) in grind (arith, nat_tests)

pub bit_of_xor : (a b k : ℕ) → bit (bit_xor a b) k ≡ differs (bit a k) (bit b k)
unfolding bit
bit_of_xor a b k = let s = xor_shr a b k in let t = xor_step (a / 2 ^ k) (b / 2 ^ k) in let d = digits_differ (a / 2 ^ k % 2) (b / 2 ^ k % 2) (omega arith) (omega arith) in grind (arith, nat_tests)

-- ---- shifts and widths

pub bit_shr : (a j k : ℕ) → bit (a / 2 ^ j) k ≡ bit a (j + k)
unfolding bit
bit_shr a j k = ap (λ n. eqb (n % 2) 1) (shr-shr a j k)

pub bit_shl : (a j k : ℕ) → bit (a * 2 ^ j) (j + k) ≡ bit a k
bit_shl a j k = sym (bit_shr (a * 2 ^ j) j k) ∙ ap (λ n. bit n k) (shl-shr a j)

-- past the width there are no ones
pub bit_above : (a w k : ℕ) → a < 2 ^ w → w ≤ k → bit a k ≡ false
unfolding bit
bit_above a w k h le = ap (λ n. eqb (n % 2) 1) (div-eq_of_lt (lt_of_lt_of_le h (pow_mono le)))

-- nor below a shift
pub bit_shl_below : (a j k : ℕ) → k < j → bit (a * 2 ^ j) k ≡ false
unfolding bit
bit_shl_below a j k h =
    let i = j - suc k in
    let e : j ≡ i + 1 + k = omega arith in
    let p : 2 ^ j ≡ 2 ^ i * 2 * 2 ^ k = ap (λ n. 2 ^ n) e ∙ pow-add 2 (i + 1) k ∙ ap (λ n. n * 2 ^ k) (pow-add 2 i 1) in
    let q : a * 2 ^ j / 2 ^ k ≡ a * 2 ^ i * 2 = ap (λ n. n / 2 ^ k) (ap (λ n. a * n) p ∙ sym (mul_assoc a (2 ^ i * 2) (2 ^ k))) ∙ shl-shr (a * (2 ^ i * 2)) k ∙ sym (mul_assoc a (2 ^ i) 2) in
    ap (λ n. eqb (n % 2) 1) q ∙ ap (λ n. eqb n 1) (mul-mod_left (a * 2 ^ i) 2)

bit_one : bit 1 0 ≡ true
unfolding bit
bit_one = refl

-- a power of two has one bit
pub bit_power : (j k : ℕ) → bit (2 ^ j) k ≡ eqb k j
bit_power j k =
    let one : 1 * 2 ^ j ≡ 2 ^ j = one-mul (2 ^ j) in
    ⊎_elim
    (λ e. let at : bit (1 * 2 ^ j) (j + 0) ≡ bit 1 0 = bit_shl 1 j 0 in let z : j + 0 ≡ k = omega arith in let yes : eqb k j ≡ true = eq-eqb k j e in let one_bit = bit_one in cc)
    (⊎_elim
    (λ (below : k < j). let none = bit_shl_below 1 j k below in rw (← one) (none ∙ sym (ne_eqb k j (λ e. omega arith))))
    (λ (past : j < k). bit_above (2 ^ j) (j + 1) k (pow_below j (j + 1) (omega arith)) (omega arith) ∙ sym (ne_eqb k j (λ e. omega arith))))
    (cases_order k j)

-- ---- the number of some bits

pub gathered_fits : (f : ℕ → Bool) (w : ℕ) → gathered f w < 2 ^ w
unfolding gathered
gathered_fits f zero = omega arith
gathered_fits f (suc w) = let h = gathered_fits f w in let p = pow-suc 2 w in grind (arith, nat_tests)

-- bits that agree gather alike
pub gathered_alike : (f g : ℕ → Bool) (w : ℕ) → ((k : ℕ) → k < w → f k ≡ g k) → gathered f w ≡ gathered g w
unfolding gathered
gathered_alike f g zero same = refl
gathered_alike f g (suc w) same =
    ap₂ (λ n b. n + cond b (2 ^ w) 0) (gathered_alike f g w (λ k h. same k (omega arith))) (same w (omega arith))

weight : (d p : ℕ) → d < 2 → cond (eqb d 1) p 0 ≡ d * p
weight zero p h = sym (zero-mul p)
weight (suc zero) p h = sym (one-mul p)
weight (suc (suc d)) p h = absurd (omega arith)

-- a number is gathered from its own bits
pub gathered_own : (a w : ℕ) → gathered (bit a) w ≡ a % 2 ^ w
unfolding gathered bit
gathered_own a zero = sym (mod-one a)
gathered_own a (suc w) =
    let ih : gathered (bit a) w ≡ a % 2 ^ w = gathered_own a w in
    let m = mod-pow-add a 1 w in
    let s : a % 2 ^ suc w ≡ a % 2 ^ (1 + w) = ap (λ n. a % 2 ^ n) (sym (one-add w)) in
    let d = weight (a / 2 ^ w % 2) (2 ^ w) (omega arith) in
    omega arith

-- numbers of one width that agree in their bits are equal
pub same_bits : (w a b : ℕ) → a < 2 ^ w → b < 2 ^ w → ((k : ℕ) → k < w → bit a k ≡ bit b k) → a ≡ b
same_bits w a b small_a small_b same =
    sym (mod-eq_of_lt small_a) ∙ sym (gathered_own a w) ∙ gathered_alike (bit a) (bit b) w same ∙ gathered_own b w ∙ mod-eq_of_lt small_b

bit_flag : (b : Bool) (j k : ℕ) → bit (cond b 1 0 * 2 ^ j) k ≡ (b && eqb k j)
bit_flag true j k = ap (λ n. bit n k) (one-mul (2 ^ j)) ∙ bit_power j k
bit_flag false j k = ap (λ n. bit n k) (zero-mul (2 ^ j)) ∙ bit_zero k

step_or : (f : ℕ → Bool) (w : ℕ) → gathered f (suc w) ≡ bit_or (cond (f w) 1 0 * 2 ^ w) (gathered f w)
unfolding gathered
step_or f w = let e = or_shifted (cond (f w) 1 0) w (gathered f w) (gathered_fits f w) in grind (arith, nat_tests)

pub bit_gathered : (f : ℕ → Bool) (w k : ℕ) → k < w → bit (gathered f w) k ≡ f k
bit_gathered f zero k h = absurd (omega arith)
bit_gathered f (suc w) k h =
    let split = ap (λ n. bit n k) (step_or f w) ∙ bit_of_or (cond (f w) 1 0 * 2 ^ w) (gathered f w) k in
    let flag = bit_flag (f w) w k in
    let above = bit_above (gathered f w) w k (gathered_fits f w) in
    ⊎_elim
    (λ (below : k < w). let ih = bit_gathered f w k below in grind (arith, nat_tests))
    (λ (here : w ≤ k). let e : k ≡ w = omega arith in let fe : f k ≡ f w = ap f e in let none = above here in grind (arith, nat_tests))
    (cases_lt k w)

-- sixteen ones
pub bit_ones : (k : ℕ) → bit 65535 k ≡ ltb k 16
unfolding gathered
bit_ones k =
    ⊎_elim
    (λ (h : k < 16). let e : bit (gathered (λ _. true) 16) k ≡ true = bit_gathered (λ _. true) 16 k h in e ∙ grind (arith, nat_tests))
    (λ (h : 16 ≤ k). let e = bit_above 65535 16 k (omega arith) h in grind (arith, nat_tests))
    (cases_lt k 16)

pub bit_sixteen : (one : Bool) (k : ℕ) → k < 16 → bit (cond one 65535 0) k ≡ one
bit_sixteen true k h = bit_ones k ∙ grind (arith, nat_tests)
bit_sixteen false k h = bit_zero k

-- the low sixteen bits of a number, and those above
pub bit_low : (a k : ℕ) → k < 16 → bit (a % 65536) k ≡ bit a k
bit_low a k h =
    ap (λ n. bit n k) (sym (gathered_own a 16)) ∙ bit_gathered (bit a) 16 k h

pub bit_high : (a k : ℕ) → bit (a / 65536) k ≡ bit a (16 + k)
bit_high a k = bit_shr a 16 k
