-- The check of a watch list, step by step.
use Rattle.std.proofs.Common.{◌≡◌, ℕ, ◌+◌, ◌<◌, true, false, ltb, List, [], length, get_or, take, drop, Err, Option, ap, arith}
use Rattle.std.proofs.lemmas.List.{drop_more, length-take-le, take_more}
use Rattle.watch_list.specs.Checks.{check_behind, check_of, entry_fault, refused_at}
use Rattle.watch_list.specs.declared.entry.Entry.{Entry}
use Rattle.watch_list.specs.declared.entry.Entry.TheVariants.{Latch}
use Rattle.watch_list.specs.declared.fault.ListFault.{ListFault}
use Rattle.watch_list.specs.declared.fault.ListFault.TheVariants.{TooManyEntries}

-- the entry at no place, as a loop writes it
abbrev pub zero_entry : Entry
zero_entry = Latch (record { address = record { port = 0; device = 0 }; register = 0; high_mask = 0; low_mask = 0 })

-- one entry more
pub behind_at : (entries : List Entry) (i : ℕ) (fault : Option ListFault) → i < length entries → fault ≡ entry_fault (take i entries) (get_or entries i zero_entry)
    → check_behind (take i entries) (drop i entries) ≡ refused_at fault i (check_behind (take (i + 1) entries) (drop (i + 1) entries))
behind_at entries i fault within found =
    let here = ap (check_behind (take i entries)) (drop_more entries i zero_entry within) in
    let place = length-take-le i entries (omega arith) in
    let next = take_more entries i zero_entry within in
    cc

pub too_many : (entries : List Entry) → true ≡ ltb 16 (length entries) → check_of entries ≡ Err (record { fault = TooManyEntries; place = 16 })
unfolding check_of
too_many entries many = cc

pub few_enough : (entries : List Entry) → false ≡ ltb 16 (length entries) → check_of entries ≡ check_behind [] entries
unfolding check_of
few_enough entries few = cc
