-- What the scan of a line says of it.
use Rattle.std.proofs.Common.{◌≡◌, ℕ, zero, suc, ◌+◌, ◌*◌, ◌^◌, ◌<◌, ◌≤◌, ◌⊎◌, List, [], ◌∷◌, ◌++◌, length, sym, refl, ap, ◌∙◌, inl, inr, pow-suc, zero-add, add-one, arith, lit<}
use native.Mathlib.Nat.{pow-le-pow_right}
use Rattle.std.specs.Char.{IsAsciiWhitespace, digit_value}
use Rattle.std.specs.Str.Parse.{AllDigits as Hex, digits_value, digits_value_after}
use Rattle.std.proofs.lemmas.Bool.Decides.{nat_tests}
use Rattle.std.proofs.lemmas.Bool.{cases_lt, cases_eq}
use Rattle.frames.specs.declared.scan.Glyph.{Glyph}
use Rattle.frames.specs.declared.scan.Glyph.TheVariants.{White as WhiteGlyph, Digit, Cross, Other as OtherGlyph}
use Rattle.frames.specs.declared.scan.Line.{Line}
use Rattle.frames.specs.declared.scan.Line.TheVariants.{Blank as BlankLine, Word, Other as OtherLine}
use Rattle.frames.specs.declared.scan.Scan.{Scan}
use Rattle.frames.specs.declared.scan.Scan.TheVariants.{Blank, Zero, Prefix, Digits, Ended, Other}
use Rattle.frames.specs.Scans.{glyph_of, next, scanned, line_of}
use Rattle.frames.specs.Lines.{White, IsPrefix, Spells, HoldsWhatWasScanned}

-- what a byte can be
data Seen (c : ℕ) : Type 0 where
  white : IsAsciiWhitespace c → glyph_of c ≡ WhiteGlyph → Seen c
  digit : digit_value c < 16 → glyph_of c ≡ Digit (digit_value c) → Seen c
  cross : (c ≡ 120) ⊎ (c ≡ 88) → glyph_of c ≡ Cross → Seen c
  other : glyph_of c ≡ OtherGlyph → Seen c

seen : (c : ℕ) → Seen c
seen c = grind (arith, nat_tests, white, digit, cross, other)

glyph_of_white : (c : ℕ) → IsAsciiWhitespace c → glyph_of c ≡ WhiteGlyph
glyph_of_white c h = grind (arith, nat_tests)

glyph_of_digit : (c : ℕ) → digit_value c < 16 → glyph_of c ≡ Digit (digit_value c)
glyph_of_digit c h = grind (arith, nat_tests)

-- a line that spells a word leads to it
scanned_append : (s : Scan) (xs ys : List ℕ) → scanned s (xs ++ ys) ≡ scanned (scanned s xs) ys
scanned_append s [] ys = refl
scanned_append s (x ∷ xs) ys = scanned_append (next s (glyph_of x)) xs ys

blank_after_white : (xs : List ℕ) → White xs → scanned Blank xs ≡ Blank
blank_after_white [] h = refl
blank_after_white (x ∷ xs) h = rw (glyph_of_white x h.0) (blank_after_white xs h.1)

-- more digits, while there is room for them
digit_next : (n v c : ℕ) → n < 8 → v < 16 ^ n → digit_value c < 16 → next (Digits n v) (glyph_of c) ≡ Digits (n + 1) (v * 16 + digit_value c)
digit_next n v c room small hex =
    let least : n ≤ 7 = omega arith in
    let most : 16 ^ n ≤ 16 ^ 7 = pow-le-pow_right (lit< tt) least in
    rw (glyph_of_digit c hex) (grind (arith, nat_tests))

digit_small : (n v c : ℕ) → v < 16 ^ n → digit_value c < 16 → v * 16 + digit_value c < 16 ^ (n + 1)
digit_small n v c small hex = rw add-one (omega (arith, pow-suc 16 n))

-- what a line holds, with a byte read as what it is
taken : (s : Scan) (bytes : List ℕ) {g h : Glyph} → g ≡ h → line_of (scanned (next s g) bytes) ≡ line_of (scanned (next s h) bytes)
taken s bytes e = ap (λ g. line_of (scanned (next s g) bytes)) e

told : (s : Scan) (bytes : List ℕ) {g h : Glyph} {r : Line} → g ≡ h → line_of (scanned (next s g) bytes) ≡ r → line_of (scanned (next s h) bytes) ≡ r
told s bytes e r = sym (taken s bytes e) ∙ r

word_after_ended : (v : ℕ) (after : List ℕ) → White after → line_of (scanned (Ended v) after) ≡ Word v
word_after_ended v [] h = refl
word_after_ended v (c ∷ cs) h = taken (Ended v) cs (glyph_of_white c h.0) ∙ word_after_ended v cs h.1

word_after_digits : (n v : ℕ) (ds after : List ℕ) → v < 16 ^ n → n + length ds ≤ 8 → Hex 16 ds → White after
    → line_of (scanned (Digits n v) (ds ++ after)) ≡ Word (digits_value_after 16 v ds)
word_after_digits n v [] [] small room hex h = refl
word_after_digits n v [] (c ∷ cs) small room hex h = taken (Digits n v) cs (glyph_of_white c h.0) ∙ word_after_ended v cs h.1
word_after_digits n v (c ∷ cs) after small room hex h =
    ap (λ s. line_of (scanned s (cs ++ after))) (digit_next n v c (omega arith) small hex.0)
    ∙ word_after_digits (n + 1) (v * 16 + digit_value c) cs after (digit_small n v c small hex.0) (omega arith) hex.1 h

-- a 0 is one digit, unless an x comes
word_after_zero : (ds after : List ℕ) → 1 + length ds ≤ 8 → Hex 16 ds → White after → line_of (scanned Zero (ds ++ after)) ≡ Word (digits_value 16 ds)
word_after_zero [] [] room hex h = refl
word_after_zero [] (c ∷ cs) room hex h = taken Zero cs (glyph_of_white c h.0) ∙ word_after_ended 0 cs h.1
word_after_zero (c ∷ cs) after room hex h =
    taken Zero (cs ++ after) (glyph_of_digit c hex.0) ∙ rw zero-add (word_after_digits 2 (digit_value c) cs after (omega arith) (omega arith) hex.1 h)

first_digit : (d : ℕ) → 0 < d → next Blank (Digit d) ≡ Digits 1 d
first_digit d h = grind (arith, nat_tests)

word_after_first_digit : (d : ℕ) (ds after : List ℕ) → d < 16 → 1 + length ds ≤ 8 → Hex 16 ds → White after
    → line_of (scanned (next Blank (Digit d)) (ds ++ after)) ≡ Word (digits_value_after 16 d ds)
word_after_first_digit zero ds after small room hex h = word_after_zero ds after room hex h
word_after_first_digit (suc d) ds after small room hex h =
    ap (λ s. line_of (scanned s (ds ++ after))) (first_digit (suc d) (omega arith)) ∙ word_after_digits 1 (suc d) ds after small room hex h

word_after_prefix : (prefix ds after : List ℕ) → IsPrefix prefix → 0 < length ds → length ds ≤ 8 → Hex 16 ds → White after
    → line_of (scanned Blank (prefix ++ (ds ++ after))) ≡ Word (digits_value 16 ds)
word_after_prefix prefix [] after p some room hex h = absurd (omega arith)
word_after_prefix prefix (c ∷ cs) after p some room hex h =
    let bare = taken Blank (cs ++ after) (glyph_of_digit c hex.0) ∙ word_after_first_digit (digit_value c) cs after hex.0 (omega arith) hex.1 h in
    let prefixed = taken Prefix (cs ++ after) (glyph_of_digit c hex.0) ∙ word_after_digits 1 (digit_value c) cs after hex.0 (omega arith) hex.1 h in
    rw zero-add (elim p [ inl e ↦ rw e bare | inr (inl e) ↦ rw e prefixed | inr (inr e) ↦ rw e prefixed ])

word_from_spells : (line : List ℕ) (w : ℕ) → Spells line w → line_of (scanned Blank line) ≡ Word w
word_from_spells line w s =
    rw (s.whole, s.writes, scanned_append Blank s.before, blank_after_white s.before s.white_before)
    (word_after_prefix s.prefix s.digits s.after s.is_prefix s.some_digit s.at_most_eight s.hex s.white_after)

-- what leads to a word spells it
other_stays : (g : Glyph) → next Other g ≡ Other
other_stays WhiteGlyph = refl
other_stays (Digit d) = refl
other_stays Cross = refl
other_stays OtherGlyph = refl

other_after_other : (bytes : List ℕ) → line_of (scanned Other bytes) ≡ OtherLine
other_after_other [] = refl
other_after_other (c ∷ cs) = rw (other_stays (glyph_of c)) (other_after_other cs)

no_word_after_other : (bytes : List ℕ) (w : ℕ) → line_of (scanned Other bytes) ≡ Word w → ⊥
no_word_after_other bytes w h = let o = other_after_other bytes in let z : ◌≡◌ {A = ℕ} 0 1 = cc in omega arith

lost : (s : Scan) (bytes : List ℕ) (w : ℕ) {g h : Glyph} {A : Type 0} → g ≡ h → next s h ≡ Other → line_of (scanned (next s g) bytes) ≡ Word w → A
lost s bytes w e o h = absurd (no_word_after_other bytes w (sym (ap (λ s. line_of (scanned s bytes)) (ap (next s) e ∙ o)) ∙ h))

-- after n digits that write v, the bytes go on so that all the digits write w
record Rest (n v : ℕ) (bytes : List ℕ) (w : ℕ) : Type 0 where
  digits : List ℕ
  after : List ℕ
  whole : bytes ≡ digits ++ after
  hex : Hex 16 digits
  at_most_eight : n + length digits ≤ 8
  white_after : White after
  writes : w ≡ digits_value_after 16 v digits

white_from_ended : (v : ℕ) (bytes : List ℕ) (w : ℕ) → line_of (scanned (Ended v) bytes) ≡ Word w → White bytes × (w ≡ v)
white_from_ended v [] w h = (tt, cc)
white_from_ended v (c ∷ cs) w h =
    elim (seen c) [
      | white k e ↦ let r = white_from_ended v cs w (told (Ended v) cs e h) in ((k, r.0), r.1)
      | digit k e ↦ lost (Ended v) cs w e refl h
      | cross k e ↦ lost (Ended v) cs w e refl h
      | other e ↦ lost (Ended v) cs w e refl h
    ]

rest_from_digits : (n v : ℕ) (bytes : List ℕ) (w : ℕ) → v < 16 ^ n → n ≤ 8 → line_of (scanned (Digits n v) bytes) ≡ Word w → Rest n v bytes w
rest_from_digits n v [] w small room h =
    record { digits = []; after = []; whole = refl; hex = tt; at_most_eight = omega arith; white_after = tt; writes = cc }
rest_from_digits n v (c ∷ cs) w small room h =
    elim (seen c) [
      | white k e ↦
          let r = white_from_ended v cs w (told (Digits n v) cs e h) in
          record { digits = []; after = c ∷ cs; whole = refl; hex = tt; at_most_eight = omega arith; white_after = (k, r.0); writes = r.1 }
      | digit k e ↦
          elim (cases_lt n 8) [
            | inl l ↦
                let next_line = ap (λ s. line_of (scanned s cs)) (digit_next n v c l small k) in
                let r = rest_from_digits (n + 1) (v * 16 + digit_value c) cs w (digit_small n v c small k) (omega arith) (sym next_line ∙ h) in
                record { digits = c ∷ r.digits; after = r.after; whole = ap (λ xs. c ∷ xs) r.whole; hex = (k, r.hex); at_most_eight = omega arith; white_after = r.white_after; writes = r.writes }
            | inr m ↦ lost (Digits n v) cs w e (grind (arith, nat_tests)) h
          ]
      | cross k e ↦ lost (Digits n v) cs w e refl h
      | other e ↦ lost (Digits n v) cs w e refl h
    ]

spells_from_rest : (prefix : List ℕ) → IsPrefix prefix → (c : ℕ) (bytes : List ℕ) (w : ℕ) → digit_value c < 16 → Rest 1 (digit_value c) bytes w → Spells (prefix ++ (c ∷ bytes)) w
spells_from_rest prefix m c bytes w k r =
    record {
      before = [];
      prefix = prefix;
      digits = c ∷ r.digits;
      after = r.after;
      whole = ap (λ xs. prefix ++ (c ∷ xs)) r.whole;
      white_before = tt;
      is_prefix = m;
      hex = (k, r.hex);
      some_digit = omega arith;
      at_most_eight = omega arith;
      white_after = r.white_after;
      writes = rw zero-add r.writes;
    }

spells_from_prefix : (x : ℕ) (bytes : List ℕ) (w : ℕ) → (x ≡ 120) ⊎ (x ≡ 88) → line_of (scanned Prefix bytes) ≡ Word w → Spells (48 ∷ (x ∷ bytes)) w
spells_from_prefix x [] w m h = absurd (no_word_after_other [] w h)
spells_from_prefix x (c ∷ cs) w m h =
    let p : IsPrefix (48 ∷ (x ∷ [])) = inr (elim m [ inl e ↦ inl (rw e) | inr e ↦ inr (rw e) ]) in
    elim (seen c) [
      | white k e ↦ lost Prefix cs w e refl h
      | digit k e ↦ spells_from_rest (48 ∷ (x ∷ [])) p c cs w k (rest_from_digits 1 (digit_value c) cs w k (omega arith) (told Prefix cs e h))
      | cross k e ↦ lost Prefix cs w e refl h
      | other e ↦ lost Prefix cs w e refl h
    ]

spells_from_zero : (bytes : List ℕ) (w : ℕ) → line_of (scanned Zero bytes) ≡ Word w → Spells (48 ∷ bytes) w
spells_from_zero [] w h = spells_from_rest [] (inl refl) 48 [] w (lit< tt) (rest_from_digits 1 0 [] w (lit< tt) (omega arith) h)
spells_from_zero (c ∷ cs) w h =
    elim (seen c) [
      | white k e ↦ one_digit (taken (Digits 1 0) cs e ∙ (told Zero cs e h))
      | digit k e ↦
          one_digit (taken (Digits 1 0) cs e ∙ (ap (λ d. line_of (scanned (Digits 2 d) cs)) (zero-add (digit_value c)) ∙ (told Zero cs e h)))
      | cross k e ↦ spells_from_prefix c cs w k (told Zero cs e h)
      | other e ↦ lost Zero cs w e refl h
    ]
  where
    one_digit : line_of (scanned (Digits 1 0) (c ∷ cs)) ≡ Word w → Spells (48 ∷ (c ∷ cs)) w
    one_digit g = spells_from_rest [] (inl refl) 48 (c ∷ cs) w (lit< tt) (rest_from_digits 1 0 (c ∷ cs) w (lit< tt) (omega arith) g)

zero_from_digit : (c : ℕ) → digit_value c ≡ 0 → c ≡ 48
zero_from_digit c h = grind (arith, nat_tests)

spells_after_white : (c : ℕ) (bytes : List ℕ) (w : ℕ) → IsAsciiWhitespace c → Spells bytes w → Spells (c ∷ bytes) w
spells_after_white c bytes w k s =
    record {
      before = c ∷ s.before;
      prefix = s.prefix;
      digits = s.digits;
      after = s.after;
      whole = ap (λ xs. c ∷ xs) s.whole;
      white_before = (k, s.white_before);
      is_prefix = s.is_prefix;
      hex = s.hex;
      some_digit = s.some_digit;
      at_most_eight = s.at_most_eight;
      white_after = s.white_after;
      writes = s.writes;
    }

spells_from_blank : (bytes : List ℕ) (w : ℕ) → line_of (scanned Blank bytes) ≡ Word w → Spells bytes w
spells_from_blank [] w h = let z : ◌≡◌ {A = ℕ} 0 1 = cc in absurd (omega arith)
spells_from_blank (c ∷ cs) w h =
    elim (seen c) [
      | white k e ↦ spells_after_white c cs w k (spells_from_blank cs w (told Blank cs e h))
      | digit k e ↦
          elim (cases_eq (digit_value c) 0) [
            | inl z ↦
                let is_zero = zero_from_digit c z in
                rw is_zero (spells_from_zero cs w (rw is_zero at h))
            | inr n ↦
                let next_line = ap (λ s. line_of (scanned s cs)) (first_digit (digit_value c) (omega arith)) in
                spells_from_rest [] (inl refl) c cs w k (rest_from_digits 1 (digit_value c) cs w k (omega arith) (sym (taken Blank cs e ∙ next_line) ∙ h))
          ]
      | cross k e ↦ lost Blank cs w e refl h
      | other e ↦ lost Blank cs w e refl h
    ]

-- only white space leads to a blank
blank_from_next : (s : Scan) (g : Glyph) → next s g ≡ Blank → (s ≡ Blank) × (g ≡ WhiteGlyph)
blank_from_next s g h = grind (arith, nat_tests)

blank_from_line : (s : Scan) → line_of s ≡ BlankLine → s ≡ Blank
blank_from_line s h = grind arith

white_from_glyph : (c : ℕ) → glyph_of c ≡ WhiteGlyph → IsAsciiWhitespace c
white_from_glyph c h = grind (arith, nat_tests)

white_from_blank : (s : Scan) (bytes : List ℕ) → line_of (scanned s bytes) ≡ BlankLine → (s ≡ Blank) × White bytes
white_from_blank s [] h = (blank_from_line s h, tt)
white_from_blank s (c ∷ cs) h =
    let r = white_from_blank (next s (glyph_of c)) cs h in
    let b = blank_from_next s (glyph_of c) r.0 in
    (b.0, (white_from_glyph c b.1, r.1))

pub line_holds : (s : Scan) (r : Line) → r ≡ line_of s → HoldsWhatWasScanned s r
line_holds s r e line h =
    let same : r ≡ line_of (scanned Blank line) = e ∙ ap line_of h in
    record {
      word = λ w k. spells_from_blank line w (sym same ∙ k);
      spelled = λ w k. same ∙ word_from_spells line w k;
      blank = λ k. (white_from_blank Blank line (sym same ∙ k)).1;
      white = λ k. same ∙ ap line_of (blank_after_white line k);
    }
