-- Which watch lists are refused: too many entries first, then entry by entry from the first, each by the rules in their order.
use Rattle.std.specs.Prelude.{◌≡◌, ℕ, Bool, if◌then◌else◌, not, ◌&&◌, ◌||◌, List, [], ◌∷◌, ◌++◌, length, Some, None, Ok, Err, Option, Result, ◌==◌, bit_and, nat_lt}
use Rattle.std.specs.List.{list_any}
use Rattle.frame.specs.Addresses.{addressable}
use Rattle.watch_list.specs.Entries.{address_of, is_of, names}
use Rattle.watch_list.specs.Lists.{WellListed}
use Rattle.watch_list.specs.declared.entry.Entry.{Entry}
use Rattle.watch_list.specs.declared.entry.Entry.TheVariants.{Latch, Count}
use Rattle.watch_list.specs.declared.fault.ListFault.{ListFault}
use Rattle.watch_list.specs.declared.fault.ListFault.TheVariants.{TooManyEntries, Malformed, RegisterTaken}
use Rattle.fault_at.specs.declared.FaultAt.{FaultAt}

-- the refusals' numbers on the card
abbrev pub number_of : ListFault → ℕ
number_of TooManyEntries = 20
number_of Malformed = 21
number_of RegisterTaken = 22

-- ---- the tests of an entry

abbrev pub well_formed : Entry → Bool
well_formed (Latch e) = addressable e.address && bit_and e.high_mask e.low_mask == 0
well_formed (Count e) = addressable e.address && not (e.high == e.low)

-- one of an entry's registers is named by another entry too
abbrev pub shares_register : Entry → Entry → Bool
shares_register (Latch e) f = names e.register f
shares_register (Count e) f = names e.high f || names e.low f

abbrev pub clashes : Entry → Entry → Bool
clashes e f = is_of (address_of e) f && shares_register e f

-- an earlier entry of that MMD names one of its registers
abbrev pub is_taken : List Entry → Entry → Bool
is_taken earlier e = list_any (clashes e) earlier

-- the first rule that an entry breaks after these
abbrev pub entry_fault : List Entry → Entry → Option ListFault
entry_fault earlier e = if well_formed e then (if is_taken earlier e then Some RegisterTaken else None) else Some Malformed

-- ---- the tests of a list

abbrev pub refused_at : Option ListFault → ℕ → Result (Unit {0}) (FaultAt ListFault) → Result (Unit {0}) (FaultAt ListFault)
refused_at None place behind = behind
refused_at (Some f) place behind = Err (record { fault = f; place = place })

-- the entries behind the earlier ones
abbrev pub check_behind : List Entry → List Entry → Result (Unit {0}) (FaultAt ListFault)
check_behind earlier [] = Ok tt
check_behind earlier (e ∷ rest) = refused_at (entry_fault earlier e) (length earlier) (check_behind (earlier ++ (e ∷ [])) rest)

-- what a list is refused for: 20, then 21 and 22 entry by entry
unfoldable pub check_of : List Entry → Result (Unit {0}) (FaultAt ListFault)
check_of entries =
    if nat_lt 16 (length entries) then Err (record { fault = TooManyEntries; place = 16 }) else check_behind [] entries

-- the lists in order pass, and no others
abbrev pub PassesExactly : List Entry → Type 0
PassesExactly entries = (check_of entries ≡ Ok tt → WellListed entries) × (WellListed entries → check_of entries ≡ Ok tt)
