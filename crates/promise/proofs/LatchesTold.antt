-- A look tells a latching bit exactly by its line's moments since the watcher's previous look: of every log that follows
-- the rules.
use Rattle.std.proofs.Common.{◌≡◌, ℕ, ◌<◌, Bool, true, false, cond, ◌||◌, ◌⊎◌, ◌↔◌, List, [], ◌∷◌, ◌++◌, sym, refl, ap, ◌∙◌, subst, inl, inr, ⊎_elim, arith}
use lib.ListN.{length-replicate}
use Rattle.std.proofs.lemmas.List.{get_or-replicate}
use Rattle.std.proofs.lemmas.Bool.Decides.{nat_tests}
use Rattle.std.specs.List.{AllByRecursion}
use Rattle.frame.specs.Addresses.{same_address}
use Rattle.bank.specs.Slots.{SlotMeaning}
use Rattle.bits.specs.Bits.{bit}
use Rattle.mmd.specs.Events.{same}
use Rattle.mmd.proofs.Latches.{latch_settled}
use Rattle.call.specs.Answers.{value_of}
use Rattle.call.specs.declared.call.Call.{Call}
use Rattle.call.specs.declared.call.Call.TheVariants.{WatchRead, At}
use Rattle.call.specs.declared.call.Request.{Request}
use Rattle.call.specs.declared.call.Request.TheVariants.{Read, Write, Line, Count, Finish, Reset}
use Rattle.joining.specs.Words.{latch_empty}
use Rattle.watch_list.specs.Lists.{WellListed}
use Rattle.watch_list.specs.Watches.{new_watched}
use Rattle.watch_list.specs.declared.entry.Entry.{Entry}
use Rattle.watch_list.specs.declared.entry.Entry.TheVariants.{Latch}
use Rattle.watch_list.specs.declared.entry.LatchEntry.{LatchEntry}
use Rattle.promise.specs.Logs.{Exchange, Log, accepted, is_look, is_watch_read, line_after, line_asked, line_by, line_called, FromLook}
use Rattle.promise.specs.Promises.{TellsLatches}
use Rattle.promise.specs.Rules.{set_up}
use Rattle.promise.proofs.EntryReads.{SlotsKeep}
use Rattle.promise.proofs.LatchViews.{LatchView, OwesLatch, ShowsLatch, latch_emptied, latch_read, latch_viewing, part, part_empty, told_owed}
use Rattle.promise.proofs.Looking.{look_follows, look_told, look_within, seen_at_set_up}
use Rattle.promise.proofs.Runs.{FollowsRules, after_log}
use Rattle.promise.proofs.Steps.{view_after, view_asked, view_by, view_called}
use Rattle.promise.proofs.Views.{Viewing}

-- ---- views, and what the log says of lines

-- what the watcher would be told now
abbrev would_tell : LatchView → Bool
would_tell v = v.owed || v.stands

-- while the line stands at the sense, so does the bit
abbrev UpStands : LatchView → Type 0
UpStands v = v.up ≡ true → v.stands ≡ true

module _ (e : LatchEntry) (i watcher b l : ℕ) (sense : Bool) (below : watcher < 8) (fits : b < 16) where
  abbrev viewing : Viewing (Latch e) watcher
  viewing = latch_viewing e watcher b l sense below fits

  abbrev by : Exchange → LatchView → LatchView
  by x v = view_by (Latch e) i watcher viewing x v

  abbrev after : LatchView → Log → LatchView
  after v log = view_after (Latch e) i watcher viewing v log

  asked_up : (q : Request) (v : LatchView) (was : Bool) → v.up ≡ same sense was → (view_asked (Latch e) i watcher viewing q v).up ≡ same sense (line_asked l q was)
  asked_up (Read r) v was is = grind (arith, nat_tests)
  asked_up (Write r word) v was is = is
  asked_up (Line n up) v was is = grind (arith, nat_tests)
  asked_up (Count k amount) v was is = is
  asked_up (Finish r c) v was is = is
  asked_up Reset v was is = is

  called_up : (c : Call) (v : LatchView) (was : Bool) → v.up ≡ same sense was → (view_called (Latch e) i watcher viewing c v).up ≡ same sense (line_called e.address l c was)
  called_up (WatchRead w j) v was is = grind (arith, nat_tests)
  called_up (At p q) v was is = let asks = asked_up q v was is in grind (arith, nat_tests)

  by_up : (x : Exchange) (v : LatchView) (was : Bool) → v.up ≡ same sense was → (by x v).up ≡ same sense (line_by e.address l x was)
  by_up x v was is = let calls = called_up x.call v was is in grind (arith, nat_tests)

  -- the view's line is the log's
  after_up : (log : Log) (v : LatchView) (was : Bool) → v.up ≡ same sense was → (after v log).up ≡ same sense (line_after e.address l was log)
  after_up [] v was is = is
  after_up (x ∷ log) v was is = after_up log (by x v) (line_by e.address l x was) (by_up x v was is)

  -- ---- a call that is unlooked look of this watcher leaves what it would be told, and adds the moment at its end

  asked_tells : (q : Request) (v : LatchView) → UpStands v
      → (would_tell (view_asked (Latch e) i watcher viewing q v) ≡ (would_tell v || (view_asked (Latch e) i watcher viewing q v).up)) × UpStands (view_asked (Latch e) i watcher viewing q v)
  asked_tells (Read r) v holds = (grind (arith, nat_tests), λ u. grind (arith, nat_tests))
  asked_tells (Write r word) v holds = (grind (arith, nat_tests), holds)
  asked_tells (Line n up) v holds = (grind (arith, nat_tests), λ u. grind (arith, nat_tests))
  asked_tells (Count k amount) v holds = (grind (arith, nat_tests), holds)
  asked_tells (Finish r c) v holds = (grind (arith, nat_tests), holds)
  asked_tells Reset v holds = (grind (arith, nat_tests), λ u. grind (arith, nat_tests))

  called_tells : (c : Call) (v : LatchView) → UpStands v → is_watch_read watcher i c ≡ false
      → (would_tell (view_called (Latch e) i watcher viewing c v) ≡ (would_tell v || (view_called (Latch e) i watcher viewing c v).up)) × UpStands (view_called (Latch e) i watcher viewing c v)
  called_tells (WatchRead w j) v holds unlooked = (grind (arith, nat_tests), λ u. grind (arith, nat_tests))
  called_tells (At p q) v holds unlooked =
      let asks = asked_tells q v holds in
      elim (same_address p e.address)
      as (λ here. (would_tell (cond here (view_asked (Latch e) i watcher viewing q v) v) ≡ (would_tell v || (cond here (view_asked (Latch e) i watcher viewing q v) v).up)) × UpStands (cond here (view_asked (Latch e) i watcher viewing q v) v))
      [ true ↦ asks | false ↦ (grind (arith, nat_tests), holds) ]

  by_tells : (x : Exchange) (v : LatchView) → UpStands v → is_look watcher i x ≡ false → (would_tell (by x v) ≡ (would_tell v || (by x v).up)) × UpStands (by x v)
  by_tells x v holds unlooked = under (accepted x) refl
    where
      under : (ok : Bool) → accepted x ≡ ok → (would_tell (cond ok (view_called (Latch e) i watcher viewing x.call v) v) ≡ (would_tell v || (cond ok (view_called (Latch e) i watcher viewing x.call v) v).up)) × UpStands (cond ok (view_called (Latch e) i watcher viewing x.call v) v)
      under true is = called_tells x.call v holds (grind (arith, nat_tests))
      under false is = (grind (arith, nat_tests), holds)

  called_look : (c : Call) (v : LatchView) → is_watch_read watcher i c ≡ true → view_called (Latch e) i watcher viewing c v ≡ latch_emptied (latch_read v)
  called_look (WatchRead w j) v is_one = grind (arith, nat_tests)
  called_look (At p q) v is_one = let z : ◌≡◌ {A = ℕ} 0 1 = cc in absurd (omega arith)

  by_look : (x : Exchange) (v : LatchView) → is_look watcher i x ≡ true → by x v ≡ latch_emptied (latch_read v)
  by_look x v is_one =
      let ok : accepted x ≡ true = grind (arith, nat_tests) in
      let watch : is_watch_read watcher i x.call ≡ true = grind (arith, nat_tests) in
      ap (λ a. cond a (view_called (Latch e) i watcher viewing x.call v) v) ok ∙ called_look x.call v watch

  after_append : (v : LatchView) (front back : Log) → after v (front ++ back) ≡ after (after v front) back
  after_append v [] back = refl
  after_append v (x ∷ front) back = after_append (by x v) front back

  -- ---- from a look, or from set-up: nothing is owed, and the bit stands as its line does

  abbrev Fresh : LatchView → Type 0
  Fresh v = (v.owed ≡ false) × (v.stands ≡ v.up)

  fresh_from_look : (v : LatchView) → Fresh v → (before : Log) → FromLook watcher i before → Fresh (after v before)
  fresh_from_look v fresh before (inl none) = subst (λ log. Fresh (after v log)) (sym none) fresh
  fresh_from_look v fresh before (inr looked) =
      let past = looked.0 in
      let look = looked.1 in
      let at : after v before ≡ latch_emptied (latch_read (after v past)) =
      ap (after v) looked.2 ∙ after_append v past (look ∷ []) ∙ by_look look (after v past) looked.3 in
      subst Fresh (sym at) (refl, refl)

  -- ---- since then

  abbrev Moment : LatchView → Log → Type 0
  Moment v since = (front : Log) × (back : Log) × (since ≡ front ++ back) × ((after v front).up ≡ true)

  tells_moment : (since : Log) (v : LatchView) → UpStands v → AllByRecursion (λ x. is_look watcher i x ≡ false) since → would_tell (after v since) ≡ true → (would_tell v ≡ true) ⊎ Moment v since
  tells_moment [] v holds unlooked told = inl told
  tells_moment (x ∷ since) v holds unlooked told =
      let step = by_tells x v holds unlooked.0 in
      let next = by x v in
      ⊎_elim
      (λ (now_so : would_tell next ≡ true).
      let or : (would_tell v || next.up) ≡ true = sym step.0 ∙ now_so in
      ⊎_elim inl (λ up. inr (x ∷ [], since, refl, up)) (split (would_tell v) next.up or))
      (λ (later : Moment next since). inr (x ∷ later.0, later.1, ap (λ log. x ∷ log) later.2, later.3))
      (tells_moment since next step.1 unlooked.1 told)
    where
      split : (a c : Bool) → (a || c) ≡ true → (a ≡ true) ⊎ (c ≡ true)
      split true c or = inl refl
      split false c or = inr or

  told_stays : (since : Log) (v : LatchView) → UpStands v → AllByRecursion (λ x. is_look watcher i x ≡ false) since → would_tell v ≡ true → would_tell (after v since) ≡ true
  told_stays [] v holds unlooked told = told
  told_stays (x ∷ since) v holds unlooked told =
      let step = by_tells x v holds unlooked.0 in
      told_stays since (by x v) step.1 unlooked.1 (step.0 ∙ ap (λ t. t || (by x v).up) told)

  moment_tells : (front back : Log) (v : LatchView) → UpStands v → AllByRecursion (λ x. is_look watcher i x ≡ false) (front ++ back) → (after v front).up ≡ true → would_tell (after v (front ++ back)) ≡ true
  moment_tells [] back v holds unlooked up = told_stays back v holds unlooked (let st = holds up in grind (arith, nat_tests))
  moment_tells (x ∷ front) back v holds unlooked up =
      moment_tells front back (by x v) (by_tells x v holds unlooked.0).1 unlooked.1 up

  -- of a fresh view: the watcher is told exactly by the moments since
  pub told_by_moments : (v : LatchView) → Fresh v → (since : Log) → AllByRecursion (λ x. is_look watcher i x ≡ false) since → (would_tell (after v since) ≡ true) ↔ Moment v since
  told_by_moments v fresh since unlooked =
      let holds : UpStands v = λ up. fresh.1 ∙ up in (
        λ told. ⊎_elim (λ so. ([], since, refl, let o = fresh.0 in let t = fresh.1 in grind (arith, nat_tests))) (λ moment. moment) (tells_moment since v holds unlooked told),
        λ moment. subst (λ log. would_tell (after v log) ≡ true) (sym moment.2)
            (moment_tells moment.0 moment.1 v holds (subst (AllByRecursion (λ x. is_look watcher i x ≡ false)) moment.2 unlooked) moment.3),
      )

-- ---- of every log that follows the rules

at_sense : (sense x : Bool) → (same sense x ≡ true → x ≡ sense) × (x ≡ sense → same sense x ≡ true)
at_sense true x = (λ h. h, λ h. h)
at_sense false x = (λ h. grind (arith, nat_tests), λ h. grind (arith, nat_tests))

new_owes : (e : LatchEntry) (watcher b : ℕ) (sense : Bool) (u : Bool) → watcher < 8 → b < 16
    → OwesLatch watcher b sense (new_watched (Latch e)) (record { owed = false; stands = u; up = u })
new_owes e watcher b sense u below fits = (
  length-replicate 8 latch_empty,
  ap (λ k. same sense (bit (part sense k) b)) (get_or-replicate 8 watcher latch_empty latch_empty below) ∙ part_empty sense b fits,
)

pub latches_told : (slots : List SlotMeaning) (entries : List Entry) (log : Log) → WellListed entries → SlotsKeep slots → FollowsRules (set_up slots entries) log → TellsLatches slots entries log
latches_told slots entries log in_order keep right watcher i b l sense e m before since look looks listed at settled cell fits masked =
    let start = set_up slots entries in
    let below = look_within watcher i look (after_log start (before ++ since)) (look_follows start log right watcher i before since look looks).1 looks.is_one in
    let u = same sense (m.line l) in
    let v : LatchView = record { owed = false; stands = u; up = u } in
    let shows : ShowsLatch e.register b l sense m v =
    record { cell = cell; stands = ap (same sense) (latch_settled m e.register b l sense cell settled); up = refl } in
    let watching = latch_viewing e watcher b l sense below fits in
    let seen = seen_at_set_up slots entries (Latch e) i watcher watching m v listed at keep shows (new_owes e watcher b sense u below fits) in
    let tells_owed = look_told entries in_order (Latch e) i watcher listed watching start v seen log right before since look looks in
    let kept = tells_owed.0 in
    let formed = in_order.formed i (Latch e) listed in
    let all : LatchView = view_after (Latch e) i watcher watching v (before ++ since) in
    let bits : same sense (bit (value_of look.answer) b) ≡ would_tell all =
    ap (λ n. same sense (bit n b)) tells_owed.3 ∙ told_owed e watcher b l sense below fits kept (latch_read all) tells_owed.1 formed.2 masked tells_owed.2 in
    let first : LatchView = view_after (Latch e) i watcher watching v before in
    let fresh = fresh_from_look e i watcher b l sense below fits v (refl, refl) before looks.since_previous.from_look in
    let split : (more : Log) → view_after (Latch e) i watcher watching v (before ++ more) ≡ view_after (Latch e) i watcher watching first more = after_append e i watcher b l sense below fits v before in
    let moments = told_by_moments e i watcher b l sense below fits first fresh since looks.since_previous.no_look in
    let line_up : (past : Log) → (view_after (Latch e) i watcher watching v past).up ≡ same sense (line_after e.address l (m.line l) past) =
    λ past. after_up e i watcher b l sense below fits past v (m.line l) refl in (
      λ told.
          let now_so : would_tell all ≡ true = sym bits ∙ (at_sense sense (bit (value_of look.answer) b)).1 told in
          let moment = moments.0 (ap would_tell (sym (split since)) ∙ now_so) in (
            moment.0,
            moment.1,
            moment.2,
            (at_sense sense (line_after e.address l (m.line l) (before ++ moment.0))).0
                (sym (line_up (before ++ moment.0)) ∙ ap (λ w. w.up) (split moment.0) ∙ moment.3),
          ),
      λ moment.
          let up : (view_after (Latch e) i watcher watching first moment.0).up ≡ true =
          ap (λ w. w.up) (sym (split moment.0)) ∙ line_up (before ++ moment.0)
          ∙ (at_sense sense (line_after e.address l (m.line l) (before ++ moment.0))).1 moment.3 in
          let now_so = moments.1 (moment.0, moment.1, moment.2, up) in
          (at_sense sense (bit (value_of look.answer) b)).0 (bits ∙ ap would_tell (split since) ∙ now_so),
    )
