use Rattle.std.proofs.Common.{get_or, arith}
use Rattle.std.proofs.ByRecursion.{All-get_or}
use Rattle.std.proofs.lemmas.Bool.Decides.{nat_tests}
use Rattle.rows.specs.Layouts.{WellFormed}
use Rattle.rows.proofs.Own.{kind_has_content}
use Rattle.rows.proofs.Spans.{zero_row}
use Rattle.table_mmd.proofs.fill.new_entries.Goals as goal

pub unwrap-content-requires : goal.unwrap-content-requires
unwrap-content-requires c =
    let rows = c.args.rows.now in
    let i = c.loop-row.row-index in
    let formed = All-get_or WellFormed rows i zero_row c.loop-row-test.true c.requires in
    let listed = kind_has_content (get_or rows i zero_row) in
    let told = c.content.ensures in
    grind (arith, nat_tests)
