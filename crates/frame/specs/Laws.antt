-- What building and splitting promise of each other.
use Rattle.std.specs.Prelude.{◌≡◌, ℕ, ◌^◌, ◌<◌, Ok}
use Rattle.frame.specs.declared.frame.Frame.{Frame}
use Rattle.frame.specs.Words.{built, split_of, counting_bits}

-- a word built from f splits into f
abbrev pub SplitsBack : Frame → Type 0
SplitsBack f = (w : ℕ) → built f ≡ Ok w → split_of w ≡ Ok f

-- the bits that count in w, and no others, decide what w splits into
pub record OnlyCountingBitsDecide (w : ℕ) : Type 0 where
  -- what w splits into builds the word of these bits alone
  pub rebuilds : (f : Frame) → split_of w ≡ Ok f → built f ≡ Ok (counting_bits w)
  -- words that agree in them split alike, refused ones too
  pub agreeing_split_alike : (v : ℕ) → v < 2 ^ 32 → counting_bits v ≡ counting_bits w → split_of v ≡ split_of w
  -- words that split into one frame agree in them
  pub alike_agree : (v : ℕ) (f : Frame) → v < 2 ^ 32 → split_of v ≡ Ok f → split_of w ≡ Ok f → counting_bits v ≡ counting_bits w
