-- Which MMD an entry of the watch list names, and which registers.
use Rattle.std.specs.Prelude.{ℕ, Bool, ◌||◌, ◌==◌}
use Rattle.frame.specs.Addresses.{same_address}
use Rattle.frame.specs.declared.address.MmdAddress.{MmdAddress}
use Rattle.watch_list.specs.declared.entry.Entry.{Entry}
use Rattle.watch_list.specs.declared.entry.Entry.TheVariants.{Latch, Count}

abbrev pub address_of : Entry → MmdAddress
address_of (Latch e) = e.address
address_of (Count e) = e.address

-- whether an entry is of the MMD at an address
abbrev pub is_of : MmdAddress → Entry → Bool
is_of address e = same_address (address_of e) address

-- the register whose reading feeds an entry: its own, or the high half's
abbrev pub fed_by : Entry → ℕ
fed_by (Latch e) = e.register
fed_by (Count e) = e.high

-- whether an entry names a register
abbrev pub names : ℕ → Entry → Bool
names r (Latch e) = e.register == r
names r (Count e) = e.high == r || e.low == r
