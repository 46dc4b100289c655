-- How a line of text is read, byte by byte: white space, an optional 0x, one to eight hex digits, white space.
use Rattle.std.specs.Prelude.{ℕ, ◌+◌, ◌*◌, ◌%◌, ◌^◌, cond, ◌||◌, List, [], ◌∷◌, ◌==◌, nat_lt}
use Rattle.std.specs.Char.{digit_value, is_ascii_whitespace}
use Rattle.frames.specs.declared.scan.Glyph.{Glyph}
use Rattle.frames.specs.declared.scan.Glyph.TheVariants.{White, Digit, Cross, Other as OtherGlyph}
use Rattle.frames.specs.declared.scan.Line.{Line}
use Rattle.frames.specs.declared.scan.Line.TheVariants.{Blank as BlankLine, Word, Other as OtherLine}
use Rattle.frames.specs.declared.scan.Scan.{Scan}
use Rattle.frames.specs.declared.scan.Scan.TheVariants.{Blank, Zero, Prefix, Digits, Ended, Other}

abbrev pub glyph_of : ℕ → Glyph
glyph_of c =
    cond (is_ascii_whitespace c) White (cond (nat_lt (digit_value c) 16) (Digit (digit_value c)) (cond (c == 120 || c == 88) Cross OtherGlyph))

abbrev pub after_white : Scan → Scan
after_white Blank = Blank
after_white Zero = Ended 0
after_white Prefix = Other
after_white (Digits n v) = Ended v
after_white (Ended v) = Ended v
after_white Other = Other

abbrev pub after_digit : Scan → ℕ → Scan
after_digit Blank d = cond (d == 0) Zero (Digits 1 d)
after_digit Zero d = Digits 2 d
after_digit Prefix d = Digits 1 d
after_digit (Digits n v) d = cond (nat_lt n 8) (Digits (n + 1) (v * 16 % 2 ^ 32 + d)) Other
after_digit (Ended v) d = Other
after_digit Other d = Other

abbrev pub after_cross : Scan → Scan
after_cross Blank = Other
after_cross Zero = Prefix
after_cross Prefix = Other
after_cross (Digits n v) = Other
after_cross (Ended v) = Other
after_cross Other = Other

abbrev pub next : Scan → Glyph → Scan
next s White = after_white s
next s (Digit d) = after_digit s d
next s Cross = after_cross s
next s OtherGlyph = Other

abbrev pub scanned : Scan → List ℕ → Scan
scanned s [] = s
scanned s (c ∷ cs) = scanned (next s (glyph_of c)) cs

abbrev pub line_of : Scan → Line
line_of Blank = BlankLine
line_of Zero = Word 0
line_of Prefix = OtherLine
line_of (Digits n v) = Word v
line_of (Ended v) = Word v
line_of Other = OtherLine
