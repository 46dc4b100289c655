-- The digits of a number: how a line takes one more, and that they read back.
use Rattle.std.proofs.Common.{◌≡◌, ℕ, zero, suc, ◌+◌, ◌*◌, ◌/◌, ◌%◌, ◌^◌, ◌<◌, ◌≤◌, List, ◌∷◌, ◌++◌, length, drop, set, sym, refl, ap, ◌∙◌, ap₂, mod-eq_of_lt, mul_assoc, add-mul, add-one, pow-suc, arith}
use native.Mathlib.Nat.{pow-succ', pow-zero}
use lib.Arith.{mod-mul}
use lib.Bits.{bit_and}
use Rattle.std.proofs.Math.Nat.{div-div-eq-div-mul}
use Rattle.std.proofs.lemmas.List.{drop-set}
use Rattle.std.proofs.lemmas.Nat.{and_mask, mod_below, mul-lt, pow-add}
use Rattle.std.proofs.lemmas.Str.{digit_value-digit_char}
use Rattle.std.proofs.lemmas.Bool.Decides.{nat_tests}
use Rattle.std.specs.Str.Parse.{digits_value, digits_value_after}
use Rattle.std.specs.Char.{digit_char}
use Rattle.std.specs.List.{AllByRecursion}
use Rattle.trace_format.specs.Lines.{digits, newline}
use Rattle.trace_format.specs.Telling.{Digit}

hex_place : (k : ℕ) → 2 ^ (4 * k) ≡ 16 ^ k
hex_place zero = refl
hex_place (suc k) =
    let e : 4 * suc k ≡ 4 + 4 * k = omega arith in
    ap (λ n. 2 ^ n) e ∙ pow-add 2 4 (4 * k) ∙ ap (λ n. 16 * n) (hex_place k) ∙ sym (pow-succ' 16 k)

-- four bits of a word are its hex digit at that place
pub four_bits : (word place : ℕ) → bit_and (word / 2 ^ (4 * place)) 15 ≡ word / 16 ^ place % 16
four_bits word place = and_mask (word / 2 ^ (4 * place)) 4 ∙ ap (λ n. word / n % 16) (hex_place place)

-- one digit more, in front of those that stand at the end of a line
pub digit_more : (base place n at behind here : ℕ) (line : List ℕ) (d : ℕ) → at < length line → behind ≡ at + 1 → here ≡ at
    → drop behind line ≡ digits base place n ++ newline → d ≡ digit_char (n / base ^ place % base)
    → drop here (set line at d) ≡ digits base (place + 1) n ++ newline
digit_more base place n at behind here line d inside is_behind is_here stand is =
    ap (λ k. drop k (set line at d)) is_here ∙ drop-set line at d inside
    ∙ ap₂ (λ c cs. c ∷ cs) is (ap (λ k. drop k line) (sym is_behind) ∙ stand) ∙ ap (λ w. digits base w n ++ newline) (sym (add-one place))

-- what is above one digit more
pub rest_more : (base place n : ℕ) → n / base ^ place / base ≡ n / base ^ (place + 1)
rest_more base place n = div-div-eq-div-mul n (base ^ place) base ∙ ap (λ k. n / k) (sym (ap (λ e. base ^ e) (add-one place) ∙ pow-suc base place))

pub digits_count : (base width n : ℕ) → length (digits base width n) ≡ width
digits_count base zero n = refl
digits_count base (suc width) n = ap suc (digits_count base width n)

char_small : (d : ℕ) → d < 16 → Digit (digit_char d)
char_small d h = grind (arith, nat_tests)

pub digits_small : (base width n : ℕ) → 0 < base → base ≤ 16 → AllByRecursion Digit (digits base width n)
digits_small base zero n p h = tt
digits_small base (suc width) n p h =
    let d : n / base ^ width % base < 16 = omega (arith, mod_below (n / base ^ width) base p) in
    (char_small (n / base ^ width % base) d, digits_small base width n p h)

base_pos : (base width : ℕ) → 0 < base → 0 < base ^ width
base_pos base zero p = omega (arith, pow-zero base)
base_pos base (suc width) p = omega (arith, pow-suc base width, mul-lt 0 0 (base ^ width) base (base_pos base width p) p)

-- the number of the digits after those that have been read
value_after : (base width n before : ℕ) → 0 < base → base ≤ 16
    → digits_value_after base before (digits base width n) ≡ before * base ^ width + n % base ^ width
value_after base zero n before p h = rw (pow-zero base) (omega arith)
value_after base (suc width) n before p h =
    let place : ℕ = base ^ width in
    let d : ℕ = n / place % base in
    let low : d < 36 = omega (arith, mod_below (n / place) base p) in
    ap (λ v. digits_value_after base (before * base + v) (digits base width n)) (digit_value-digit_char d low)
    ∙ value_after base width n (before * base + d) p h
    ∙ rw (pow-succ' base width)
    (omega (arith, add-mul (before * base) d place, mul_assoc before base place, mod-mul n p (base_pos base width p)))

pub digits_read_back : (base width n : ℕ) → 0 < base → base ≤ 16 → n < base ^ width → digits_value base (digits base width n) ≡ n
digits_read_back base width n p h fits = value_after base width n 0 p h ∙ (omega (arith, mod-eq_of_lt fits))
