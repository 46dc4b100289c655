-- What a line of text holds, with no word of how it is read.
use Rattle.std.specs.Prelude.{◌≡◌, ℕ, ◌<◌, ◌≤◌, ◌⊎◌, List, [], ◌∷◌, ◌++◌, length}
use Rattle.std.specs.List.{AllByRecursion}
use Rattle.std.specs.Char.{IsAsciiWhitespace}
use Rattle.std.specs.Str.Parse.{AllDigits, digits_value}
use Rattle.frames.specs.Scans.{scanned}
use Rattle.frames.specs.declared.scan.Line.{Line}
use Rattle.frames.specs.declared.scan.Line.TheVariants.{Blank as BlankLine, Word}
use Rattle.frames.specs.declared.scan.Scan.{Scan}
use Rattle.frames.specs.declared.scan.Scan.TheVariants.{Blank}

-- white space, or nothing
abbrev pub White : List ℕ → Type 0
White bytes = AllByRecursion IsAsciiWhitespace bytes

-- nothing, 0x or 0X
abbrev pub IsPrefix : List ℕ → Type 0
IsPrefix bytes = (bytes ≡ []) ⊎ ((bytes ≡ 48 ∷ (120 ∷ [])) ⊎ (bytes ≡ 48 ∷ (88 ∷ [])))

-- the line is white space, a prefix, one to eight hex digits that write w, and white space
pub record Spells (line : List ℕ) (w : ℕ) : Type 0 where
  pub before : List ℕ
  pub prefix : List ℕ
  pub digits : List ℕ
  pub after : List ℕ
  pub whole : line ≡ before ++ (prefix ++ (digits ++ after))
  pub white_before : White before
  pub is_prefix : IsPrefix prefix
  pub hex : AllDigits 16 digits
  pub some_digit : 0 < length digits
  pub at_most_eight : length digits ≤ 8
  pub white_after : White after
  pub writes : w ≡ digits_value 16 digits

-- r is a word exactly for a line that spells it, and blank exactly for white space
pub record Holds (line : List ℕ) (r : Line) : Type 0 where
  pub word : (w : ℕ) → r ≡ Word w → Spells line w
  pub spelled : (w : ℕ) → Spells line w → r ≡ Word w
  pub blank : r ≡ BlankLine → White line
  pub white : White line → r ≡ BlankLine

-- r is what any line holds that leads to the scan s
abbrev pub HoldsWhatWasScanned : Scan → Line → Type 0
HoldsWhatWasScanned s r = (line : List ℕ) → s ≡ scanned Blank line → Holds line r
