-- A look tells a counter's sum since the watcher's previous look: of every log that follows the rules.
use Rattle.std.proofs.Common.{◌≡◌, ℕ, ◌+◌, ◌<◌, Bool, true, false, cond, List, [], ◌∷◌, ◌++◌, refl, ap, ◌∙◌, inl, inr, arith}
use lib.ListN.{length-replicate}
use Rattle.std.proofs.lemmas.List.{get_or-replicate}
use Rattle.std.proofs.lemmas.Bool.Decides.{nat_tests}
use Rattle.std.specs.List.{AllByRecursion}
use Rattle.frame.specs.Addresses.{same_address}
use Rattle.bank.specs.Slots.{SlotMeaning}
use Rattle.mmd.proofs.Counters.{counter_settled}
use Rattle.call.specs.declared.call.Call.{Call}
use Rattle.call.specs.declared.call.Call.TheVariants.{WatchRead, At}
use Rattle.call.specs.declared.call.Request.{Request}
use Rattle.call.specs.declared.call.Request.TheVariants.{Read, Write, Line, Count as CountRequest, Finish, Reset}
use Rattle.joining.specs.Words.{count_empty}
use Rattle.watch_list.specs.Lists.{WellListed}
use Rattle.watch_list.specs.Watches.{new_watched}
use Rattle.watch_list.specs.declared.entry.CountEntry.{CountEntry}
use Rattle.watch_list.specs.declared.entry.Entry.{Entry}
use Rattle.watch_list.specs.declared.entry.Entry.TheVariants.{Count}
use Rattle.promise.specs.Logs.{Exchange, Log, accepted, amount_asked, amount_by, amount_called, counted, is_look, is_watch_read, FromLook, Since}
use Rattle.promise.specs.Promises.{TellsCounts}
use Rattle.promise.specs.Rules.{set_up}
use Rattle.promise.proofs.CountViews.{CountView, OwesCount, ShowsCount, capped, count_emptied, count_read, count_viewing, told_sum}
use Rattle.promise.proofs.EntryReads.{SlotsKeep}
use Rattle.promise.proofs.Looking.{look_follows, look_told, look_within, seen_at_set_up}
use Rattle.promise.proofs.Runs.{FollowsRules, after_log}
use Rattle.promise.proofs.Steps.{view_after, view_asked, view_by, view_called}
use Rattle.promise.proofs.Views.{Viewing}

-- what the watcher would be told now
abbrev would_tell : CountView → ℕ
would_tell v = capped (v.sum + v.counter)

module _ (e : CountEntry) (i watcher k : ℕ) (below : watcher < 8) where
  abbrev viewing : Viewing (Count e) watcher
  viewing = count_viewing e watcher k below

  abbrev by : Exchange → CountView → CountView
  by x v = view_by (Count e) i watcher viewing x v

  abbrev after : CountView → Log → CountView
  after v log = view_after (Count e) i watcher viewing v log

  -- ---- a call that is no look of this watcher adds the amount that it counts

  asked_tells : (q : Request) (v : CountView) → would_tell (view_asked (Count e) i watcher viewing q v) ≡ capped (would_tell v + amount_asked k q)
  asked_tells (Read r) v = grind (arith, nat_tests)
  asked_tells (Write r word) v = omega arith
  asked_tells (Line n up) v = omega arith
  asked_tells (CountRequest n amount) v = grind (arith, nat_tests)
  asked_tells (Finish r c) v = omega arith
  asked_tells Reset v = omega arith

  called_tells : (c : Call) (v : CountView) → is_watch_read watcher i c ≡ false → would_tell (view_called (Count e) i watcher viewing c v) ≡ capped (would_tell v + amount_called e.address k c)
  called_tells (WatchRead w j) v unlooked = grind (arith, nat_tests)
  called_tells (At p q) v unlooked =
      let asks = asked_tells q v in
      elim (same_address p e.address)
      as (λ here. would_tell (cond here (view_asked (Count e) i watcher viewing q v) v) ≡ capped (would_tell v + cond here (amount_asked k q) 0))
      [ true ↦ asks | false ↦ omega arith ]

  by_tells : (x : Exchange) (v : CountView) → is_look watcher i x ≡ false → would_tell (by x v) ≡ capped (would_tell v + amount_by e.address k x)
  by_tells x v unlooked = under (accepted x) refl
    where
      under : (ok : Bool) → accepted x ≡ ok → would_tell (cond ok (view_called (Count e) i watcher viewing x.call v) v) ≡ capped (would_tell v + cond ok (amount_called e.address k x.call) 0)
      under true is = called_tells x.call v (grind (arith, nat_tests))
      under false is = omega arith

  after_tells : (log : Log) (v : CountView) → AllByRecursion (λ x. is_look watcher i x ≡ false) log → would_tell (after v log) ≡ capped (would_tell v + counted e.address k log)
  after_tells [] v unlooked = omega arith
  after_tells (x ∷ log) v unlooked =
      let step = by_tells x v unlooked.0 in
      let rest = after_tells log (by x v) unlooked.1 in
      rest ∙ ap (λ n. capped (n + counted e.address k log)) step
      ∙ added (would_tell v) (amount_by e.address k x) (counted e.address k log)
    where
      added : (a b c : ℕ) → capped (capped (a + b) + c) ≡ capped (a + (b + c))
      added a b c = omega arith

  -- ---- a look leaves nothing

  called_look : (c : Call) (v : CountView) → is_watch_read watcher i c ≡ true → view_called (Count e) i watcher viewing c v ≡ count_emptied (count_read v)
  called_look (WatchRead w j) v is_one = grind (arith, nat_tests)
  called_look (At p q) v is_one = let z : ◌≡◌ {A = ℕ} 0 1 = cc in absurd (omega arith)

  by_look : (x : Exchange) (v : CountView) → is_look watcher i x ≡ true → by x v ≡ count_emptied (count_read v)
  by_look x v is_one =
      let ok : accepted x ≡ true = grind (arith, nat_tests) in
      let watch : is_watch_read watcher i x.call ≡ true = grind (arith, nat_tests) in
      ap (λ a. cond a (view_called (Count e) i watcher viewing x.call v) v) ok ∙ called_look x.call v watch

  pub after_append : (v : CountView) (front back : Log) → after v (front ++ back) ≡ after (after v front) back
  after_append v [] back = refl
  after_append v (x ∷ front) back = after_append (by x v) front back

  tells_none_from_look : (v : CountView) → would_tell v ≡ 0 → (before : Log) → FromLook watcher i before → would_tell (after v before) ≡ 0
  tells_none_from_look v none before (inl start) = ap (λ log. would_tell (after v log)) start ∙ none
  tells_none_from_look v none before (inr looked) =
      ap (λ log. would_tell (after v log)) looked.2 ∙ ap would_tell (after_append v looked.0 (looked.1 ∷ []) ∙ by_look looked.1 (after v looked.0) looked.3)

  pub tells_sum_since : (v : CountView) → would_tell v ≡ 0 → (before since : Log) → Since watcher i before since
      → would_tell (after v (before ++ since)) ≡ capped (counted e.address k since)
  tells_sum_since v none before since looks =
      ap would_tell (after_append v before since) ∙ after_tells since (after v before) looks.no_look
      ∙ ap (λ n. capped (n + counted e.address k since)) (tells_none_from_look v none before looks.from_look) ∙ omega arith

-- ---- of every log that follows the rules

new_owes : (e : CountEntry) (watcher : ℕ) → watcher < 8 → OwesCount watcher (new_watched (Count e)) (record { sum = 0; counter = 0 })
new_owes e watcher below = (length-replicate 8 count_empty, ap (λ w. w.sum) (get_or-replicate 8 watcher count_empty count_empty below))

pub counts_told : (slots : List SlotMeaning) (entries : List Entry) (log : Log) → WellListed entries → SlotsKeep slots → FollowsRules (set_up slots entries) log → TellsCounts slots entries log
counts_told slots entries log in_order keep right watcher i k e m before since look looks listed at settled field =
    let start = set_up slots entries in
    let below = look_within watcher i look (after_log start (before ++ since)) (look_follows start log right watcher i before since look looks).1 looks.is_one in
    let v : CountView = record { sum = 0; counter = 0 } in
    let shows : ShowsCount e.high e.low k m v = record { field = field; counter = counter_settled m k e.high e.low field settled } in
    let watching = count_viewing e watcher k below in
    let seen = seen_at_set_up slots entries (Count e) i watcher watching m v listed at keep shows (new_owes e watcher below) in
    let tells_owed = look_told entries in_order (Count e) i watcher listed watching start v seen log right before since look looks in
    tells_owed.3 ∙ told_sum e watcher k below tells_owed.0 (count_read (view_after (Count e) i watcher watching v (before ++ since))) tells_owed.2
    ∙ tells_sum_since e i watcher k below v refl before since looks.since_previous
