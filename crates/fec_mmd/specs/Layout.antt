-- The 10G-EPON FEC registers of IEEE 802.3 device 3, the PCS: what each bit is, and where the counters stand.
use Rattle.std.specs.Prelude.{ℕ, ◌-◌, true, false, cond, ◌==◌, nat_lt}
use Rattle.bits.specs.Bits.{bit}
use Rattle.mmd.specs.Cells.{Cell, blank, fixed, follower, latch, setting, high_half, low_half, no_field, long_field}
use Rattle.mmd.specs.Meaning.{Layout}

-- 3.74: .1 is 10 Gb/s FEC error indication ability, .0 FEC ability
abbrev pub ability : ℕ → Cell
ability b = cond (nat_lt b 2) (fixed true) blank

-- 3.75: .1 is enable FEC error indication, .0 FEC enable, always one
abbrev pub control : ℕ → Cell
control b = cond (b == 1) (setting false) (cond (b == 0) (fixed true) blank)

-- 3.76 to 3.79: all sixteen bits are of a counter's half
abbrev pub sixteen : (ℕ → Cell) → ℕ → Cell
sixteen half b = cond (nat_lt b 16) (half b) blank

-- 3.80: .15:8 is BER monitor threshold, .7:0 BER monitor timer
abbrev pub ber_control_cell : ℕ → Cell
ber_control_cell b = cond (nat_lt b 8) (setting (bit 25 b)) (cond (nat_lt b 16) (setting (bit 16 (b - 8))) blank)

-- 3.81: .1 is latched high BER, .0 high BER, both of line 0
abbrev pub ber_status : ℕ → Cell
ber_status b = cond (b == 1) (latch true 0) (cond (b == 0) (follower 0) blank)

-- counter 0 is corrected FEC codewords, counter 1 uncorrected FEC codewords
unfoldable pub fec_layout : Layout
fec_layout =
    record {
      cell = λ r b.
          cond (r == 74) (ability b)
          (cond (r == 75) (control b)
          (cond (r == 76) (sixteen (low_half 0) b)
          (cond (r == 77) (sixteen (high_half 0) b)
          (cond (r == 78) (sixteen (low_half 1) b)
          (cond (r == 79) (sixteen (high_half 1) b)
          (cond (r == 80) (ber_control_cell b)
          (cond (r == 81) (ber_status b) blank)))))));
      field = λ k. cond (k == 0) (long_field 77 76) (cond (k == 1) (long_field 79 78) no_field);
    }
