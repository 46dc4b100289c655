use Rattle.std.proofs.Common.{arith}
use Rattle.std.proofs.lemmas.Bool.Decides.{nat_tests}
use Rattle.frame.specs.Words.{split_of}
use Rattle.frame.proofs.Laws.{only_counting_bits_decide}
use Rattle.frame.proofs.word.split.Goals as goal

pub returns-then-not-starts_as_clause_45 : goal.returns-then-not-starts_as_clause_45
unfolding split_of
returns-then-not-starts_as_clause_45 c =
    record { result = grind (arith, nat_tests); only_counting_bits_decide = only_counting_bits_decide c.args.word (omega arith) }

pub returns-then-not-turns_around : goal.returns-then-not-turns_around
unfolding split_of
returns-then-not-turns_around c =
    record { result = grind (arith, nat_tests); only_counting_bits_decide = only_counting_bits_decide c.args.word (omega arith) }

pub returns : goal.returns
unfolding split_of
returns c =
    record { result = grind (arith, nat_tests); only_counting_bits_decide = only_counting_bits_decide c.args.word (omega arith) }
