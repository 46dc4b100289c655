-- Building and splitting undo each other, up to the bits that a read frame ignores.
use Rattle.std.proofs.Common.{◌≡◌, ℕ, ◌^◌, ◌<◌, true, Ok, ap, ◌∙◌, arith}
use Rattle.std.proofs.lemmas.Bool.Decides.{nat_tests}
use Rattle.frame.specs.Addresses.{addressable}
use Rattle.frame.specs.declared.address.MmdAddress.{MmdAddress}
use Rattle.frame.specs.declared.frame.Frame.{Frame}
use Rattle.frame.specs.declared.frame.Operation.{Operation}
use Rattle.frame.specs.declared.frame.Operation.TheVariants.{Address, Write, Read, PostReadIncrement}
use Rattle.frame.specs.Laws.{SplitsBack, OnlyCountingBitsDecide}
use Rattle.frame.specs.Words.{built, split_of, counting_bits, low16_of, word_of}

word_splits_back : (address : MmdAddress) (o : Operation) → addressable address ≡ true → low16_of o < 65536 → split_of (word_of (record { address = address; operation = o })) ≡ Ok (record { address = address; operation = o })
unfolding split_of
word_splits_back address (Address register) a l = grind (arith, nat_tests)
word_splits_back address (Write value) a l = grind (arith, nat_tests)
word_splits_back address Read a l = grind (arith, nat_tests)
word_splits_back address PostReadIncrement a l = grind (arith, nat_tests)

pub built_splits_back : (f : Frame) → low16_of f.operation < 65536 → SplitsBack f
unfolding built
built_splits_back f l w b =
    let a : addressable f.address ≡ true = grind (arith, nat_tests) in
    let e : w ≡ word_of f = grind (arith, nat_tests) in
    ap split_of e ∙ word_splits_back f.address f.operation a l

rebuilt : (w : ℕ) → w < 2 ^ 32 → (f : Frame) → split_of w ≡ Ok f → built f ≡ Ok (counting_bits w)
unfolding split_of built counting_bits
rebuilt w h f s = grind (arith, nat_tests)

agreeing : (w : ℕ) → w < 2 ^ 32 → (v : ℕ) → v < 2 ^ 32 → counting_bits v ≡ counting_bits w → split_of v ≡ split_of w
unfolding split_of counting_bits
agreeing w h v k e = grind (arith, nat_tests)

pub only_counting_bits_decide : (w : ℕ) → w < 2 ^ 32 → OnlyCountingBitsDecide w
only_counting_bits_decide w h =
    record {
      rebuilds = rebuilt w h;
      agreeing_split_alike = agreeing w h;
      alike_agree = λ v f k s t. let x = rebuilt v k f s in let y = rebuilt w h f t in cc;
    }
