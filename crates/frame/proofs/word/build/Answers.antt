use Rattle.std.proofs.Common.{arith}
use Rattle.std.proofs.lemmas.Bool.Decides.{nat_tests}
use Rattle.frame.specs.Words.{built}
use Rattle.frame.proofs.Laws.{built_splits_back}
use Rattle.frame.proofs.word.build.Goals as goal

pub returns-then-not-is_addressable : goal.returns-then-not-is_addressable
unfolding built
returns-then-not-is_addressable c = record { result = grind (arith, nat_tests); splits_back = λ w built-so. grind (arith, nat_tests) }

pub returns : goal.returns
unfolding built
returns c = record { result = grind (arith, nat_tests); splits_back = built_splits_back c.args.frame c.word_of.ensures.low16_fits }
