-- How an input falls into numbered lines: a line ends at byte 10, and the next has the next number.
use Rattle.std.specs.Prelude.{ℕ, ◌+◌, ◌-◌, ◌^◌, min, cond, Some, None, Option, ◌==◌}
use Rattle.frames.specs.declared.listing.Listing.{Listing}
use Rattle.frames.specs.declared.listing.NumberedLine.{NumberedLine}
use Rattle.frames.specs.declared.scan.Scan.TheVariants.{Blank}
use Rattle.frames.specs.Scans.{glyph_of, next, line_of}

abbrev pub unended : Listing → NumberedLine
unended l = record { number = l.number; line = line_of l.scan }

abbrev pub ended_by : Listing → ℕ → Option NumberedLine
ended_by l byte = cond (byte == 10) (Some (unended l)) None

abbrev pub after_byte : Listing → ℕ → Listing
after_byte l byte =
    cond (byte == 10) (record { number = min (l.number + 1) (2 ^ 64 - 1); scan = Blank })
    (record { number = l.number; scan = next l.scan (glyph_of byte) })
