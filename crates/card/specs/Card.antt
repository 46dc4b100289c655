-- The ring card, as its manual lists it.
use Rattle.std.specs.Prelude.{◌≡◌, true, List, [], ◌∷◌, ◌++◌, Ok, Err, Result}
use Rattle.bank.specs.Banks.{slot_meaning}
use Rattle.bank.specs.Slots.{SlotMeaning}
use Rattle.bank.specs.declared.pair.Pair.{Pair}
use Rattle.bank.specs.declared.slot.Slot.{Slot}
use Rattle.bits.specs.Bits.{bit}
use Rattle.bus.specs.Places.{found, place}
use Rattle.fec_mmd.specs.Device as fec
use Rattle.fec_mmd.specs.Layout.{fec_layout}
use Rattle.fec_mmd.specs.declared.fec.FecMmd.{FecMmd}
use Rattle.frame.specs.declared.address.MmdAddress.{MmdAddress}
use Rattle.mmd.specs.Cells.{latch, long_field}
use Rattle.mmd.specs.Invariant.{Settled}
use Rattle.mmd.specs.Meaning.{Meaning, new_meaning}
use Rattle.rows.specs.Checks.{layout_of}
use Rattle.rows.specs.declared.row.Row.{Row}
use Rattle.table_mmd.specs.Device as table
use Rattle.table_mmd.specs.declared.fill.FillRefusal.{FillRefusal}
use Rattle.table_mmd.specs.declared.fill.FillRefusal.TheVariants.{Memory}
use Rattle.table_mmd.specs.declared.table.TableMmd.{TableMmd}
use Rattle.watch_list.specs.Lists.{WellListed}
use Rattle.watch_list.specs.declared.entry.Entry.{Entry}
use Rattle.watch_list.specs.declared.entry.Entry.TheVariants.{Latch, Count}

-- 1.8.11 latches line 1 high, and 1.8.15:14 is fixed at 2
abbrev pub card_rows : List Row
card_rows =
    record { register = 8; high = 11; low = 11; kind = 3; number = 1 }
    ∷ record { register = 8; high = 15; low = 14; kind = 1; number = 2 } ∷ []

abbrev pub card_table : Meaning
card_table = new_meaning (layout_of card_rows)

abbrev pub card_fec : Meaning
card_fec = new_meaning fec_layout

abbrev pub at_table : MmdAddress
at_table = record { port = 1; device = 1 }

abbrev pub at_fec : MmdAddress
at_fec = record { port = 1; device = 3 }

-- a table MMD at port 1, device 1, and the FEC MMD at port 1, device 3
abbrev pub card_slots : List SlotMeaning
card_slots =
    record { address = at_table; register = 0; mmd = card_table }
    ∷ record { address = at_fec; register = 0; mmd = card_fec } ∷ []

-- entry 0 is the latch 1.8.11, entry 1 counts 3.77 and 3.76
abbrev pub card_entries : List Entry
card_entries =
    Latch (record { address = at_table; register = 8; high_mask = 0x0800; low_mask = 0 })
    ∷ Count (record { address = at_fec; high = 77; low = 76 }) ∷ []

abbrev pub slots_of : Pair (Slot TableMmd) (Slot FecMmd) → List SlotMeaning
slots_of b = (slot_meaning table.meaning_of b.left ∷ []) ++ (slot_meaning fec.meaning_of b.right ∷ [])

-- the bank is the card's, or there is no memory for its table
abbrev pub IsCardBank : Result (Pair (Slot TableMmd) (Slot FecMmd)) FillRefusal → Type 0
IsCardBank (Ok b) = slots_of b ≡ card_slots
IsCardBank (Err e) = e ≡ Memory

-- what the watchers' promise covers on the card
pub record Covered : Type 0 where
  pub list_in_order : WellListed card_entries
  pub table_found : place at_table card_slots ≡ found card_table
  pub table_settled : Settled card_table
  -- 1.8.11 latches line 1 high, and stands in the high mask of entry 0
  pub latch_there : card_table.layout.cell 8 11 ≡ latch true 1
  pub latch_masked : bit 0x0800 11 ≡ true
  pub fec_found : place at_fec card_slots ≡ found card_fec
  pub fec_settled : Settled card_fec
  -- 3.77 and 3.76 are the halves of counter 0
  pub counter_there : card_fec.layout.field 0 ≡ long_field 77 76
