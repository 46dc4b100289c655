-- The entries of a station stay such that a frame can name them.
use Rattle.std.proofs.Common.{◌≡◌, ℕ, zero, suc, true, List, [], ◌∷◌, map, set, Some, Ok, refl, ap, ◌∙◌, arith}
use Rattle.std.proofs.lemmas.Bool.{and_from, and_parts}
use Rattle.std.proofs.lemmas.Bool.Decides.{nat_tests}
use Rattle.std.specs.List.{slice_get}
use Rattle.watch_list.specs.Checks.{check_of}
use Rattle.watch_list.specs.Lists.{WellFormed}
use Rattle.watch_list.proofs.Listed.{passes_exactly}
use Rattle.watch_list.specs.Watches.{entry_of, new_watched}
use Rattle.watch_list.specs.declared.entry.Entry.{Entry}
use Rattle.watch_list.specs.declared.entry.Entry.TheVariants.{Latch, Count}
use Rattle.watch_list.specs.declared.watch.Watched.{Watched}
use Rattle.station.specs.Named.{all_named, is_named}

pub named_nth : (ws : List Watched) (i : ℕ) (w : Watched) → all_named ws ≡ true → slice_get ws i ≡ Some w → is_named (entry_of w) ≡ true
unfolding all_named
named_nth [] i w all at = let z : ◌≡◌ {A = ℕ} 0 1 = cc in absurd (omega arith)
named_nth (v ∷ ws) zero w all at = let e : w ≡ v = cc in ap (λ x. is_named (entry_of x)) e ∙ (and_parts (is_named (entry_of v)) (all_named ws) all).0
named_nth (v ∷ ws) (suc i) w all at = named_nth ws i w (and_parts (is_named (entry_of v)) (all_named ws) all).1 at

named_set : (ws : List Watched) (i : ℕ) (w : Watched) → all_named ws ≡ true → is_named (entry_of w) ≡ true → all_named (set ws i w) ≡ true
unfolding all_named
named_set [] i w all here = refl
named_set (v ∷ ws) zero w all here = and_from (is_named (entry_of w)) (all_named ws) here (and_parts (is_named (entry_of v)) (all_named ws) all).1
named_set (v ∷ ws) (suc i) w all here =
    let parts = and_parts (is_named (entry_of v)) (all_named ws) all in
    and_from (is_named (entry_of v)) (all_named (set ws i w)) parts.0 (named_set ws i w parts.1 here)

-- one that is put in the place of another
pub named_put : (ws : List Watched) (i : ℕ) (w v : Watched) → all_named ws ≡ true → slice_get ws i ≡ Some w → entry_of v ≡ entry_of w → all_named (set ws i v) ≡ true
named_put ws i w v all at same = named_set ws i v all (ap is_named same ∙ named_nth ws i w all at)

-- ---- a list that passes its check

formed_named : (e : Entry) → WellFormed e → is_named (entry_of (new_watched e)) ≡ true
formed_named (Latch e) formed = grind (arith, nat_tests)
formed_named (Count e) formed = grind (arith, nat_tests)

all_formed : (es : List Entry) → ((i : ℕ) (e : Entry) → slice_get es i ≡ Some e → WellFormed e) → all_named (map new_watched es) ≡ true
unfolding all_named
all_formed [] formed = refl
all_formed (e ∷ es) formed =
    and_from (is_named (entry_of (new_watched e))) (all_named (map new_watched es)) (formed_named e (formed 0 e refl)) (all_formed es (λ i f at. formed (suc i) f at))

pub named_checked : (es : List Entry) (ws : List Watched) → check_of es ≡ Ok tt → ws ≡ map new_watched es → all_named ws ≡ true
named_checked es ws passes made = ap all_named made ∙ all_formed es ((passes_exactly es).0 passes).formed
