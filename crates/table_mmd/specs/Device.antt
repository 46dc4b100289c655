-- What the struct of a table means.
use Rattle.mmd.specs.Meaning.{Meaning}
use Rattle.std.specs.Prelude.{vec_items}
use Rattle.table_mmd.specs.Tables.{table_meaning}
use Rattle.table_mmd.specs.declared.table.TableMmd.{TableMmd}

abbrev pub meaning_of : TableMmd → Meaning
meaning_of m = table_meaning (vec_items m.entries) m.live.lines m.live.slots
