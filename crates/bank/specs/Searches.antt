-- What a search looks for.
use Rattle.std.specs.Prelude.{Bool, ◌==◌}
use Rattle.frame.specs.Addresses.{same_address}
use Rattle.frame.specs.declared.address.MmdAddress.{MmdAddress}
use Rattle.bank.specs.Slots.{SlotMeaning}
use Rattle.bank.specs.declared.wanted.Wanted.{Wanted}
use Rattle.bank.specs.declared.wanted.Wanted.TheVariants.{Port, Mmd}

abbrev pub suits : Wanted → MmdAddress → Bool
suits (Port port) address = address.port == port
suits (Mmd wanted) address = same_address address wanted

abbrev pub is_wanted : Wanted → SlotMeaning → Bool
is_wanted wanted s = suits wanted s.address
