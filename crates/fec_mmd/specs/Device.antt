-- What the struct of the FEC registers means.
use Rattle.mmd.specs.Meaning.{Meaning}
use Rattle.fec_mmd.specs.declared.fec.FecMmd.{FecMmd}
use Rattle.fec_mmd.specs.Meaning.{fec_meaning}

abbrev pub meaning_of : FecMmd → Meaning
meaning_of m = fec_meaning m.lines m.high_ber_latch m.error_indication m.ber_control m.corrected m.uncorrected
