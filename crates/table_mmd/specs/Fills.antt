-- What filling a table from rows gives.
use Rattle.std.specs.Prelude.{◌≡◌, ◌≤◌, true, List, length, Some, None, Ok, Err, Result}
use Rattle.std.specs.List.{AllByRecursion}
use Rattle.mmd.specs.Invariant.{Settled}
use Rattle.mmd.specs.Meaning.{new_meaning}
use Rattle.table_mmd.specs.Changes.{new_entry}
use Rattle.rows.specs.Checks.{fault_of, layout_of}
use Rattle.table_mmd.specs.Device.{meaning_of}
use Rattle.rows.specs.Layouts.{FormsLayout}
use Rattle.rows.specs.Orders.{rising}
use Rattle.table_mmd.specs.Entries.{rows_of}
use Rattle.table_mmd.specs.declared.entry.Entry.{Entry}
use Rattle.table_mmd.specs.declared.fill.FillRefusal.{FillRefusal}
use Rattle.table_mmd.specs.declared.fill.FillRefusal.TheVariants.{Faulty, Memory}
use Rattle.rows.specs.declared.row.Row.{Row}
use Rattle.table_mmd.specs.declared.table.TableMmd.{TableMmd}

-- the first row at fault is told; else the MMD has exactly these rows, and nothing has happened to it; or there is no memory
abbrev pub Filled : List Row → Result TableMmd FillRefusal → Type 0
Filled rows (Ok t) = (fault_of rows ≡ None) × (meaning_of t ≡ new_meaning (layout_of rows)) × Settled (meaning_of t)
Filled rows (Err (Faulty f)) = fault_of rows ≡ Some f
Filled rows (Err Memory) = fault_of rows ≡ None

-- up to 64 rows pass exactly when they form a layout and rise in order
abbrev pub PassesExactly : List Row → Type 0
PassesExactly rows =
    length rows ≤ 64
    → (fault_of rows ≡ None → FormsLayout rows × (rising rows ≡ true)) × (FormsLayout rows → rising rows ≡ true → fault_of rows ≡ None)

-- entries of these rows, to which nothing has happened
abbrev pub StartsAs : List Row → List Entry → Type 0
StartsAs rows es = (rows_of es ≡ rows) × AllByRecursion (λ e. e ≡ new_entry e.row) es
