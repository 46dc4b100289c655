-- What every station keeps: a frame can name the address of each of its entries.
use Rattle.std.specs.Prelude.{Bool, true, ◌&&◌, List, [], ◌∷◌}
use Rattle.frame.specs.Addresses.{addressable}
use Rattle.watch_list.specs.Entries.{address_of}
use Rattle.watch_list.specs.Watches.{entry_of}
use Rattle.watch_list.specs.declared.entry.Entry.{Entry}
use Rattle.watch_list.specs.declared.watch.Watched.{Watched}

abbrev pub is_named : Entry → Bool
is_named e = addressable (address_of e)

unfoldable pub all_named : List Watched → Bool
all_named [] = true
all_named (w ∷ ws) = is_named (entry_of w) && all_named ws
