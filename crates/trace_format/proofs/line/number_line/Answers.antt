use Rattle.std.proofs.Common.{ℕ, ◌+◌, ◌-◌, ◌/◌, ◌%◌, ◌<◌, length, ap, ◌∙◌, arith}
use Rattle.std.proofs.lemmas.List.{get_or-set_other, length-set}
use Rattle.std.specs.Char.{digit_char}
use Rattle.trace_format.proofs.Digits.{digit_more, rest_more}
use Rattle.trace_format.proofs.line.number_line.Goals as goal

pub loop-place-preserved : goal.loop-place-preserved
loop-place-preserved g c =
    let line = c.loop-place.line in
    let place = c.loop-place.place in
    let inv = c.loop-place.invariant in
    let at : ℕ = g.row.N - 2 - place in
    let within = c.loop-place-test.true in
    let inside : at < length line = omega (arith, inv.0) in
    let digit = c.digit_char.ensures ∙ ap (λ r. digit_char (r % c.args.base)) inv.4 in (
      length-set line at c.digit_char.result ∙ inv.0,
      get_or-set_other line at 0 c.digit_char.result 0 (λ e. omega arith) ∙ inv.1,
      get_or-set_other line at 1 c.digit_char.result 0 (λ e. omega arith) ∙ inv.2,
      digit_more c.args.base place c.args.number at (g.row.N - 1 - place) (g.row.N - 1 - (place + 1)) line c.digit_char.result inside (omega arith) (omega arith) inv.3 digit,
      ap (λ r. r / c.args.base) inv.4 ∙ rest_more c.args.base place c.args.number,
    )
