-- What every MMD keeps comes out of what a table keeps.
use Rattle.std.proofs.Math.Logic.{∥∥₁_elim}
use Rattle.mmd.proofs.Unique.{keeps_unique}
use Rattle.mmd.specs.Invariant.{Keeps}
use Rattle.rows.specs.declared.slot.CounterSlot.{CounterSlot}
use Rattle.std.specs.Prelude.{ℕ, List}
use Rattle.table_mmd.specs.Tables.{Laid, table_meaning}
use Rattle.table_mmd.specs.declared.entry.Entry.{Entry}

pub keeps_of : {es : List Entry} {lines : ℕ} {slots : List CounterSlot} → ∥ Laid es lines slots ∥₁ → Keeps (table_meaning es lines slots)
keeps_of laid = ∥∥₁_elim laid (keeps_unique _) (λ l. l.keeps)
