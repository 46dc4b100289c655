-- Which watch lists are in order, in the words of the card's rules.
use Rattle.std.specs.Prelude.{◌≡◌, ℕ, ◌≤◌, true, false, List, length, Some, ◌≢◌, bit_and}
use Rattle.std.specs.List.{slice_get}
use Rattle.watch_list.specs.Entries.{address_of, is_of, names}
use Rattle.watch_list.specs.declared.entry.Entry.{Entry}
use Rattle.watch_list.specs.declared.entry.Entry.TheVariants.{Latch, Count}

-- an entry by itself: an address that a frame can name, masks that share no bit, halves in two registers
abbrev pub WellFormed : Entry → Type 0
WellFormed (Latch e) = (e.address.port ≤ 31) × (e.address.device ≤ 31) × (bit_and e.high_mask e.low_mask ≡ 0)
WellFormed (Count e) = (e.address.port ≤ 31) × (e.address.device ≤ 31) × (e.high ≢ e.low)

pub record WellListed (entries : List Entry) : Type 0 where
  -- at most 16 entries
  pub few : length entries ≤ 16
  pub formed : (i : ℕ) (e : Entry) → slice_get entries i ≡ Some e → WellFormed e
  -- no two entries of one MMD name one register
  pub apart : (i j : ℕ) (e f : Entry) → slice_get entries i ≡ Some e → slice_get entries j ≡ Some f → (i ≢ j) → is_of (address_of e) f ≡ true → (r : ℕ) → names r e ≡ true → names r f ≡ false
