-- The search for the entry that a register feeds.
use Rattle.std.proofs.Common.{◌≡◌, ℕ, ◌+◌, Bool, true, false, if◌then◌else◌, List, [], ◌∷◌, Some, None, Option, sym, refl, ap, ◌∙◌, subst, ◌<◌, length, arith}
use Rattle.std.proofs.lemmas.Iterator.Adapters.{position_from-zero}
use Rattle.std.specs.List.{position, position_from, slice_get}
use Rattle.frame.specs.declared.address.MmdAddress.{MmdAddress}
use Rattle.bank.specs.Slots.{next_place}
use Rattle.promise.proofs.Lists.{nth_within}
use Rattle.promise.proofs.Steps.{Heard, hearing_right}
use Rattle.promise.specs.Rules.{hearing, hears}
use Rattle.watch_list.specs.declared.watch.Watched.{Watched}

abbrev further : ℕ → Option ℕ → Option ℕ
further i None = None
further i (Some n) = Some (i + n)

further_zero : (o : Option ℕ) → o ≡ further 0 o
further_zero None = refl
further_zero (Some n) = ap Some (omega arith)

further_next : (i : ℕ) (o : Option ℕ) → further i (next_place o) ≡ further (i + 1) o
further_next i None = refl
further_next i (Some n) = ap Some (omega arith)

heard_from : (address : MmdAddress) (register i : ℕ) (ws : List Watched) → position_from (hears address register) i ws ≡ further i (hearing address register ws)
unfolding hearing
heard_from address register i [] = refl
heard_from address register i (w ∷ ws) = by (heard_from address register (i + 1) ws) (hears address register w)
  where
    by : position_from (hears address register) (i + 1) ws ≡ further (i + 1) (hearing address register ws) → (t : Bool)
        → (if t then Some i else position_from (hears address register) (i + 1) ws) ≡ further i (if t then Some 0 else next_place (hearing address register ws))
    by later true = ap Some (omega arith)
    by later false = later ∙ sym (further_next i (hearing address register ws))

-- the entry is found as the first that hears
pub heard_first : (address : MmdAddress) (register : ℕ) (ws : List Watched) → position (hears address register) ws ≡ hearing address register ws
heard_first address register ws =
    position_from-zero (hears address register) ws ∙ heard_from address register 0 ws ∙ sym (further_zero (hearing address register ws))

-- ---- the entry that was found

pub heard_entry : (address : MmdAddress) (register i : ℕ) (ws : List Watched) → hearing address register ws ≡ Some i
    → (w : Watched) × (slice_get ws i ≡ Some w) × (hears address register w ≡ true)
heard_entry address register i ws is = subst (Heard address register ws) is (hearing_right address register ws)

pub heard_within : (address : MmdAddress) (register i : ℕ) (ws : List Watched) → hearing address register ws ≡ Some i → i < length ws
heard_within address register i ws is = let entry = heard_entry address register i ws is in nth_within ws i entry.0 entry.1
