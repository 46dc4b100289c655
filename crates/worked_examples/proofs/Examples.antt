-- Each example computes.
use Rattle.std.proofs.Common.{refl}
use Rattle.bits.specs.Bits.{bit, gathered}
use Rattle.frame.specs.Words.{built, split_of}
use Rattle.mmd.specs.Events.{after_read, after_write, after_line, after_count}
use Rattle.mmd.specs.Meaning.{new_meaning, read_word, shown}
use Rattle.rows.specs.Checks.{layout_of}
use Rattle.rows.specs.Rows.{content_of}
use Rattle.worked_examples.specs.Examples.{WorkedExamples}

pub worked_examples : WorkedExamples
unfolding bit gathered built split_of after_read after_write after_line after_count new_meaning read_word shown layout_of content_of
worked_examples =
    record {
      address_frame = refl;
      read_frame = refl;
      read_alike = (refl, refl);
      refused_turnaround = refl;
      refused_start = refl;
      increment_stops = (refl, refl, refl);
      latches_high = (refl, refl, refl, refl);
      latches_low = (refl, refl);
      short_counter_stops = (refl, refl);
      long_counter_stops = (refl, refl, refl);
      self_clearing_stays = refl;
    }
