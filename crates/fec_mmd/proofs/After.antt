-- What each call does to the values that the FEC registers keep.
use Rattle.std.proofs.Common.{◌≡◌, ℕ, ◌+◌, ◌-◌, ◌<◌, ◌≤◌, min, Bool, false, cond, ◌&&◌, ◌||◌, eqb, sym, refl, ap, ◌∙◌, arith}
use Rattle.std.proofs.lemmas.Bool.Decides.{nat_tests}
use Rattle.bits.specs.Bits.{bit, SetsBit}
use Rattle.bits.proofs.Bits.{bit_zero, bit_shr, bit_gathered, gathered_own}
use Rattle.mmd.specs.declared.counter.Counter.{Counter}
use Rattle.mmd.specs.Events.{after_read, after_write, after_line, after_count, after_reset}
use Rattle.mmd.specs.Meaning.{new_meaning, default_state}
use Rattle.mmd.proofs.Equal.{same_meaning}
use Rattle.fec_mmd.specs.declared.fec.FecMmd.{FecMmd}
use Rattle.fec_mmd.specs.Device.{meaning_of}
use Rattle.fec_mmd.specs.Layout.{fec_layout}
use Rattle.fec_mmd.specs.Meaning.{fec_meaning, fec_stored}

-- ---- defaults

-- the default of 3.80 in one word has the BER monitor timer in its low byte and the threshold in its high byte
timer_default : (b : ℕ) → b < 8 → bit 25 b ≡ bit 4121 b
timer_default b h = ap (λ n. bit n b) (sym (gathered_own 4121 8)) ∙ bit_gathered (bit 4121) 8 b h

threshold_default : (b : ℕ) → 8 ≤ b → bit 16 (b - 8) ≡ bit 4121 b
threshold_default b h = bit_shr 4121 8 (b - 8) ∙ ap (bit 4121) (omega arith)

stored_default : (line : ℕ → Bool) (r b : ℕ) → fec_stored (line 0) false 4121 r b ≡ default_state line (fec_layout.cell r b)
unfolding fec_layout
stored_default line r b = let low = timer_default b in let high = threshold_default b in grind (arith, nat_tests)

abbrev zero_counter : Counter
zero_counter = record { value = 0; held = 0 }

pub new_is : fec_meaning 0 false false 4121 zero_counter zero_counter ≡ new_meaning fec_layout
unfolding new_meaning fec_meaning
new_is = same_meaning _ _ refl bit_zero (stored_default (λ _. false)) (λ k. grind (arith, nat_tests)) (λ k. grind (arith, nat_tests))

-- ---- calls

module _ (m : FecMmd) where
  pub after_reset_is : fec_meaning m.lines (bit m.lines 0) false 4121 zero_counter zero_counter ≡ after_reset (meaning_of m)
  unfolding after_reset fec_meaning
  after_reset_is = same_meaning _ _ refl (λ l. refl) (stored_default (bit m.lines)) (λ k. grind (arith, nat_tests)) (λ k. grind (arith, nat_tests))

  pub after_read_is : (r : ℕ) →
      fec_meaning m.lines (cond (eqb r 81) (bit m.lines 0) m.high_ber_latch) m.error_indication m.ber_control
      (cond (eqb r 77) (record { value = 0; held = m.corrected.value }) m.corrected)
      (cond (eqb r 79) (record { value = 0; held = m.uncorrected.value }) m.uncorrected)
      ≡ after_read (meaning_of m) r
  unfolding after_read fec_meaning fec_layout
  after_read_is r = same_meaning _ _ refl (λ l. refl) (λ q b. grind (arith, nat_tests)) (λ k. grind (arith, nat_tests)) (λ k. grind (arith, nat_tests))

  pub after_write_is : (r word : ℕ) →
      fec_meaning m.lines m.high_ber_latch (cond (eqb r 75) (bit word 1) m.error_indication) (cond (eqb r 80) word m.ber_control)
      m.corrected m.uncorrected
      ≡ after_write (meaning_of m) r word
  unfolding after_write fec_meaning fec_layout
  after_write_is r word = same_meaning _ _ refl (λ l. refl) (λ q b. grind (arith, nat_tests)) (λ k. refl) (λ k. refl)

  pub after_line_is : (n : ℕ) (up : Bool) (lines : ℕ) → SetsBit m.lines n up lines →
      fec_meaning lines (m.high_ber_latch || (up && eqb n 0)) m.error_indication m.ber_control m.corrected m.uncorrected
      ≡ after_line (meaning_of m) n up
  unfolding after_line fec_meaning fec_layout
  after_line_is n up lines set = same_meaning _ _ refl set (λ q b. grind (arith, nat_tests)) (λ k. refl) (λ k. refl)

  pub after_count_is : (n amount : ℕ) → n < 2 →
      fec_meaning m.lines m.high_ber_latch m.error_indication m.ber_control
      (cond (eqb n 0) (record { value = min 4294967295 (m.corrected.value + amount); held = m.corrected.held }) m.corrected)
      (cond (eqb n 1) (record { value = min 4294967295 (m.uncorrected.value + amount); held = m.uncorrected.held }) m.uncorrected)
      ≡ after_count (meaning_of m) n amount
  unfolding after_count fec_meaning fec_layout
  after_count_is n amount h = same_meaning _ _ refl (λ l. refl) (λ q b. refl) (λ k. grind (arith, nat_tests)) (λ k. grind (arith, nat_tests))
