use Rattle.std.proofs.Common.{arith}
use Rattle.std.proofs.lemmas.Bool.Decides.{nat_tests}
use Rattle.fec_mmd.specs.Layout.{fec_layout}
use Rattle.fec_mmd.proofs.Shown.{ability_word, control_word, corrected_low_word, corrected_high_word, uncorrected_low_word, uncorrected_high_word, ber_control_word, ber_status_word, other_word}
use Rattle.fec_mmd.proofs.fec.FecMmd.word.Goals as goal

pub returns-in-74 : goal.returns-in-74
returns-in-74 c = let e = ability_word c.args.self.now in cc

pub returns-in-75 : goal.returns-in-75
returns-in-75 c = let e = control_word c.args.self.now in cc

pub returns-in-76 : goal.returns-in-76
returns-in-76 c = let e = corrected_low_word c.args.self.now in cc

pub returns-in-77 : goal.returns-in-77
returns-in-77 c = let e = corrected_high_word c.args.self.now in cc

pub returns-in-78 : goal.returns-in-78
returns-in-78 c = let e = uncorrected_low_word c.args.self.now in cc

pub returns-in-79 : goal.returns-in-79
returns-in-79 c = let e = uncorrected_high_word c.args.self.now in cc

pub returns-in-80 : goal.returns-in-80
returns-in-80 c = let e = ber_control_word c.args.self.now in grind (arith, nat_tests)

pub returns-in-81 : goal.returns-in-81
returns-in-81 c = let e = ber_status_word c.args.self.now in cc

pub returns-in_default : goal.returns-in_default
unfolding fec_layout
returns-in_default c = let e = other_word c.args.self.now c.args.register (λ b. grind (arith, nat_tests)) in cc
