-- What a look tells: the watcher's word after the entry was read, at the end of what came since its previous look.
use Rattle.std.proofs.Common.{◌≡◌, ℕ, ◌<◌, true, List, [], ◌∷◌, ◌++◌, map, Some, None, Option, sym, refl, ap, ◌∙◌, subst, ap₂, append_assoc, arith}
use Rattle.std.proofs.lemmas.Bool.Decides.{nat_tests}
use Rattle.std.specs.List.{slice_get}
use Rattle.std.specs.Option.{option_map}
use Rattle.bank.specs.Slots.{SlotMeaning}
use Rattle.bus.specs.Places.{found}
use Rattle.mmd.specs.Meaning.{Meaning}
use Rattle.call.specs.Answers.{is_accepted, value_of}
use Rattle.call.specs.declared.answer.CallRefusal.{CallRefusal}
use Rattle.call.specs.declared.call.Call.{Call}
use Rattle.call.specs.declared.call.Call.TheVariants.{WatchRead, At}
use Rattle.watch_list.specs.Lists.{WellListed}
use Rattle.watch_list.specs.Watches.{entry_of, new_watched, told}
use Rattle.watch_list.specs.declared.entry.Entry.{Entry}
use Rattle.watch_list.specs.declared.watch.Watched.{Watched}
use Rattle.watch_list.proofs.Watches.{entry_of_new}
use Rattle.promise.specs.Logs.{Exchange, Log, is_look, is_watch_read}
use Rattle.promise.specs.Promises.{Looks}
use Rattle.promise.specs.Rules.{State, answer_of, answer_under, place_of, reply, set_up, told_nth, took, verdict, watch_verdict}
use Rattle.promise.proofs.EntryReads.{SlotsKeep}
use Rattle.promise.proofs.Lists.{nth_map}
use Rattle.promise.proofs.Runs.{FollowsRules, after_log, follows_back, follows_front}
use Rattle.promise.proofs.Steps.{log_seen, view_after}
use Rattle.promise.proofs.Views.{Sees, Viewing, entry_at, took_own}

-- ---- at set-up

pub new_entries : (entries : List Entry) → map entry_of (map new_watched entries) ≡ entries
new_entries [] = refl
new_entries (e ∷ entries) = ap₂ (λ a b. a ∷ b) (entry_of_new e) (new_entries entries)

pub seen_at_set_up : (slots : List SlotMeaning) (entries : List Entry) (entry : Entry) (i watcher : ℕ) (viewing : Viewing entry watcher) (m : Meaning) (v : viewing.View)
    → slice_get entries i ≡ Some entry → place_of entry slots ≡ found m → SlotsKeep slots → viewing.Shows m v → viewing.KeepsOwed (new_watched entry) v
    → Sees entries entry i watcher viewing (set_up slots entries) v
seen_at_set_up slots entries entry i watcher viewing m v listed at keep shows owed =
    record {
      mmd = m;
      kept = new_watched entry;
      at_place = at;
      in_list = nth_map new_watched entries i ∙ ap (option_map new_watched) listed;
      same_entries = new_entries entries;
      slots_keep = keep;
      shows = shows;
      owed = owed;
    }

-- ---- an accepted watch read

refused_not : (w i : ℕ) (m : State) (o : Option CallRefusal) → is_accepted (answer_under o (reply (WatchRead w i) m)) ≡ true → o ≡ None
refused_not w i m None ok = refl
refused_not w i m (Some e) ok = let z : ◌≡◌ {A = ℕ} 0 1 = cc in absurd (omega arith)

accepted_look : (watcher i : ℕ) (x : Exchange) (m : State) → x.answer ≡ answer_of x.call m → is_look watcher i x ≡ true
    → (verdict (WatchRead watcher i) m ≡ None) × (x.answer ≡ reply (WatchRead watcher i) m)
unfolding answer_of
accepted_look watcher i x m right look =
    let call : x.call ≡ WatchRead watcher i = named x.call (grind (arith, nat_tests)) in
    let answer : x.answer ≡ answer_under (verdict (WatchRead watcher i) m) (reply (WatchRead watcher i) m) = right ∙ ap (λ c. answer_of c m) call in
    let ok : is_accepted x.answer ≡ true = grind (arith, nat_tests) in
    let none = refused_not watcher i m (verdict (WatchRead watcher i) m) (ap is_accepted (sym answer) ∙ ok) in
    (none, answer ∙ ap (λ o. answer_under o (reply (WatchRead watcher i) m)) none)
  where
    named : (c : Call) → is_watch_read watcher i c ≡ true → c ≡ WatchRead watcher i
    named (WatchRead w j) is = let a : w ≡ watcher = grind (arith, nat_tests) in let b : j ≡ i = grind (arith, nat_tests) in ap₂ WatchRead a b
    named (At p q) is = let z : ◌≡◌ {A = ℕ} 0 1 = cc in absurd (omega arith)

within : (watcher : ℕ) (o : Option Watched) (slots : List SlotMeaning) → watch_verdict watcher o slots ≡ None → watcher < 8
within watcher None slots none = let z : ◌≡◌ {A = ℕ} 0 1 = cc in absurd (omega arith)
within watcher (Some x) slots none = grind (arith, nat_tests)

-- only watchers 0 to 7 look
pub look_within : (watcher i : ℕ) (x : Exchange) (m : State) → x.answer ≡ answer_of x.call m → is_look watcher i x ≡ true → watcher < 8
unfolding verdict
look_within watcher i x m right look = within watcher (slice_get m.watched i) m.slots (accepted_look watcher i x m right look).0

look_tells : (watcher i : ℕ) (x : Exchange) (m : State) → x.answer ≡ answer_of x.call m → is_look watcher i x ≡ true
    → (kept : Watched) → slice_get (took i m).watched i ≡ Some kept → value_of x.answer ≡ told watcher kept
unfolding reply
look_tells watcher i x m right look kept here =
    ap value_of (accepted_look watcher i x m right look).1 ∙ ap (told_nth watcher) here

-- ---- a look somewhere in a log

-- the exchange of the look follows the rules, after what came before
pub look_follows : (start : State) (log : Log) → FollowsRules start log → (watcher i : ℕ) (before since : Log) (look : Exchange) → Looks log watcher i before since look
    → FollowsRules start (before ++ since) × (look.answer ≡ answer_of look.call (after_log start (before ++ since)))
look_follows start log right watcher i before since look looks =
    let whole : FollowsRules start ((before ++ since) ++ (look ∷ looks.later)) =
    subst (FollowsRules start) (looks.splits ∙ sym (append_assoc before since (look ∷ looks.later))) right in
    (follows_front start (before ++ since) (look ∷ looks.later) whole, (follows_back start (before ++ since) (look ∷ looks.later) whole).0)

module _ (entries : List Entry) (in_order : WellListed entries) (entry : Entry) (i watcher : ℕ) (listed : slice_get entries i ≡ Some entry) (viewing : Viewing entry watcher) where
  -- a look tells what is owed once the entry is read
  pub look_told : (start : State) (v : viewing.View) → Sees entries entry i watcher viewing start v → (log : Log) → FollowsRules start log
      → (before since : Log) (look : Exchange) → Looks log watcher i before since look
      → (kept : Watched) × (entry_of kept ≡ entry) × viewing.KeepsOwed kept (viewing.read (view_after entry i watcher viewing v (before ++ since))) × (value_of look.answer ≡ told watcher kept)
  look_told start v seen log right before since look looks =
      let follows = look_follows start log right watcher i before since look looks in
      let st = after_log start (before ++ since) in
      let u = view_after entry i watcher viewing v (before ++ since) in
      let then = log_seen entries in_order entry i watcher listed viewing start v seen (before ++ since) follows.0 in
      let read = took_own entries in_order entry i watcher listed viewing st u then in
      let at = entry_at (took i st).watched entries i read.kept read.same_entries read.in_list in
      let is : entry_of read.kept ≡ entry = cc in
      (read.kept, is, read.owed, look_tells watcher i look st follows.1 looks.is_one read.kept read.in_list)
