-- The FEC layout is sound, and the FEC registers keep what every MMD keeps.
use Rattle.std.proofs.Common.{arith}
use Rattle.std.proofs.lemmas.Bool.Decides.{nat_tests}
use Rattle.mmd.specs.Invariant.{Keeps, Sound}
use Rattle.fec_mmd.specs.declared.fec.FecMmd.{FecMmd}
use Rattle.fec_mmd.specs.Device.{meaning_of}
use Rattle.fec_mmd.specs.Layout.{fec_layout}
use Rattle.fec_mmd.specs.Meaning.{fec_meaning}

pub fec_sound : Sound fec_layout
unfolding fec_layout
fec_sound =
    record {
      short_placed = λ r b k p e. grind (arith, nat_tests);
      high_placed = λ r b k p e. grind (arith, nat_tests);
      low_placed = λ r b k p e. grind (arith, nat_tests);
      short_whole = λ k r low w p e h. grind (arith, nat_tests);
      high_whole = λ k r q p e h. grind (arith, nat_tests);
      low_whole = λ k r q p e h. grind (arith, nat_tests);
    }

pub fec_keeps : (m : FecMmd) → Keeps (meaning_of m)
unfolding fec_meaning fec_layout
fec_keeps m =
    record {
      sound = fec_sound;
      latched = λ r b l s e up. grind (arith, nat_tests);
      counter_below_top = λ k. grind (arith, nat_tests);
      held_below_top = λ k. grind (arith, nat_tests);
    }
