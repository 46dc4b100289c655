-- The word that each FEC register shows.
use Rattle.std.proofs.Common.{◌≡◌, ℕ, ◌+◌, ◌/◌, ◌%◌, cond, refl, ◌∙◌, arith}
use Rattle.std.proofs.lemmas.Bool.Decides.{nat_tests}
use Rattle.bits.specs.Bits.{bit, gathered}
use Rattle.bits.proofs.Bits.{bit_zero, gathered_alike, gathered_own}
use Rattle.mmd.specs.Cells.{blank}
use Rattle.mmd.specs.Meaning.{shown, read_word}
use Rattle.mmd.proofs.Counters.{high_word, low_word}
use Rattle.fec_mmd.specs.declared.fec.FecMmd.{FecMmd}
use Rattle.fec_mmd.specs.Device.{meaning_of}
use Rattle.fec_mmd.specs.Layout.{fec_layout}
use Rattle.fec_mmd.specs.Meaning.{fec_meaning}
use Rattle.fec_mmd.specs.Kept.{fec_keeps}

module _ (m : FecMmd) where
  pub ability_word : read_word (meaning_of m) 74 ≡ 3
  unfolding read_word shown gathered fec_meaning fec_layout
  ability_word = refl

  pub control_word : read_word (meaning_of m) 75 ≡ cond m.error_indication 2 0 + 1
  unfolding read_word shown gathered fec_meaning fec_layout
  control_word = omega arith

  pub corrected_low_word : read_word (meaning_of m) 76 ≡ m.corrected.held % 65536
  unfolding fec_meaning fec_layout
  corrected_low_word = low_word (meaning_of m) 0 77 76 refl (fec_keeps m)

  pub corrected_high_word : read_word (meaning_of m) 77 ≡ m.corrected.value / 65536
  unfolding fec_meaning fec_layout
  corrected_high_word = high_word (meaning_of m) 0 77 76 refl (fec_keeps m)

  pub uncorrected_low_word : read_word (meaning_of m) 78 ≡ m.uncorrected.held % 65536
  unfolding fec_meaning fec_layout
  uncorrected_low_word = low_word (meaning_of m) 1 79 78 refl (fec_keeps m)

  pub uncorrected_high_word : read_word (meaning_of m) 79 ≡ m.uncorrected.value / 65536
  unfolding fec_meaning fec_layout
  uncorrected_high_word = high_word (meaning_of m) 1 79 78 refl (fec_keeps m)

  pub ber_control_word : read_word (meaning_of m) 80 ≡ m.ber_control % 65536
  unfolding read_word shown fec_meaning fec_layout
  ber_control_word =
      gathered_alike (shown (meaning_of m) 80) (bit m.ber_control) 16 (λ b h. grind (arith, nat_tests)) ∙ gathered_own m.ber_control 16

  pub ber_status_word : read_word (meaning_of m) 81 ≡ cond m.high_ber_latch 2 0 + cond (bit m.lines 0) 1 0
  unfolding read_word shown gathered fec_meaning fec_layout
  ber_status_word = omega arith

  pub other_word : (r : ℕ) → ((b : ℕ) → fec_layout.cell r b ≡ blank) → read_word (meaning_of m) r ≡ 0
  unfolding read_word shown fec_meaning
  other_word r none =
      gathered_alike (shown (meaning_of m) r) (bit 0) 16 (λ b h. let zero = bit_zero b in let empty = none b in grind (arith, nat_tests))
      ∙ gathered_own 0 16
