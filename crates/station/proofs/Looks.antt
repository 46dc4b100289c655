-- A watch read, as the rules have it.
use Rattle.std.proofs.Common.{◌≡◌, ℕ, ◌<◌, ◌≤◌, true, false, cond, leb, length, set, Some, None, Ok, Err, Option, sym, refl, ap, ◌∙◌, subst, arith}
use Rattle.std.proofs.lemmas.Bool.Decides.{nat_tests}
use Rattle.std.proofs.lemmas.List.{set-set}
use Rattle.std.proofs.lemmas.Option.{slice_get_past}
use Rattle.std.specs.List.{slice_get}
use Rattle.call.specs.declared.answer.Answer.{Answer}
use Rattle.call.specs.declared.answer.Answer.TheVariants.{Told, Refused}
use Rattle.call.specs.declared.answer.CallRefusal.{CallRefusal}
use Rattle.call.specs.declared.answer.CallRefusal.TheVariants.{OutOfRange}
use Rattle.call.specs.declared.call.Call.TheVariants.{WatchRead}
use Rattle.promise.proofs.Lists.{nth_set_same}
use Rattle.promise.specs.Rules.{State, admitted, after_call, answer_of, answer_under, looked, looked_nth, reply, state_under, told_nth, took, verdict, watch_verdict}
use Rattle.watch_list.specs.Watches.{after_look, entry_of, told}
use Rattle.watch_list.specs.declared.watch.Watched.{Watched}
use Rattle.station.specs.Outcomes.{result_under}
use Rattle.station.specs.Takes.{entry_verdict, take_answer}
use Rattle.station.proofs.Takes.{took_in_list, took_under, with_one, with_watched}

refused_is : {A : Type 0} (v : Option CallRefusal) (value : A) (e : CallRefusal) → Err e ≡ result_under v value → v ≡ Some e
refused_is None value e answered = let z : ◌≡◌ {A = ℕ} 0 1 = cc in absurd (omega arith)
refused_is (Some x) value e answered = cc

granted_is : {A : Type 0} (v : Option CallRefusal) (value word : A) → Ok word ≡ result_under v value → v ≡ None
granted_is None value word answered = refl
granted_is (Some x) value word answered = let z : ◌≡◌ {A = ℕ} 0 1 = cc in absurd (omega arith)

-- what a watch read must have answered and left
abbrev LooksSo : ℕ → State → Answer → State → ℕ → Type 0
LooksSo watcher m answer after i = (answer ≡ answer_of (WatchRead watcher i) m) × (after ≡ after_call (WatchRead watcher i) m)

module _ (watcher i entry : ℕ) (same : i ≡ entry) (m : State) where
  out_of_range : watch_verdict watcher (slice_get m.watched i) m.slots ≡ Some OutOfRange → LooksSo watcher m (Refused OutOfRange) m entry
  unfolding answer_of after_call verdict
  out_of_range is =
      let call = WatchRead watcher i in
      subst (LooksSo watcher m (Refused OutOfRange) m) same
      (sym (ap (λ v. answer_under v (reply call m)) is), sym (ap (λ v. state_under v (admitted call m) m) is))

  -- there is no such watcher
  pub look_by_none : 7 < watcher → LooksSo watcher m (Refused OutOfRange) m entry
  look_by_none past = out_of_range (by (slice_get m.watched i))
    where
      none : leb watcher 7 ≡ false
      none = grind (arith, nat_tests)

      by : (o : Option Watched) → watch_verdict watcher o m.slots ≡ Some OutOfRange
      by None = refl
      by (Some w) = ap (λ k. cond k (entry_verdict (entry_of w) m.slots) (Some OutOfRange)) none

  -- there is no such entry
  pub look_at_none : length m.watched ≤ i → LooksSo watcher m (Refused OutOfRange) m entry
  look_at_none past = out_of_range (ap (λ o. watch_verdict watcher o m.slots) (slice_get_past m.watched i past))

  module _ (known : watcher ≤ 7) (w : Watched) (there : slice_get m.watched i ≡ Some w) (after : State) (taken : Watched)
      (took_it : with_one taken after ≡ took 0 (with_one w m)) where
    abbrev put : Watched → State
    put x = with_watched (set m.watched i x) after

    took_there : put taken ≡ took i m
    took_there = took_in_list m after i w taken there took_it

    verdict_is : watch_verdict watcher (slice_get m.watched i) m.slots ≡ entry_verdict (entry_of w) m.slots
    verdict_is =
        let is : leb watcher 7 ≡ true = grind (arith, nat_tests) in
        ap (λ o. watch_verdict watcher o m.slots) there ∙ ap (λ k. cond k (entry_verdict (entry_of w) m.slots) (Some OutOfRange)) is

    pub look_refused : (e : CallRefusal) → Err e ≡ take_answer w m.slots → LooksSo watcher m (Refused e) (put taken) entry
    unfolding answer_of after_call verdict
    look_refused e answered =
        let refused = refused_is (entry_verdict (entry_of w) m.slots) _ e answered in
        let is = verdict_is ∙ refused in
        let call = WatchRead watcher i in
        subst (LooksSo watcher m (Refused e) (put taken)) same (
          sym (ap (λ v. answer_under v (reply call m)) is),
          took_there ∙ took_under m i w there ∙ ap (λ v. state_under v (took i m) m) refused ∙ sym (ap (λ v. state_under v (admitted call m) m) is),
        )

    pub look_told : (word : ℕ) → Ok word ≡ take_answer w m.slots → (owed : ℕ) (kept : Watched)
        → owed ≡ told watcher taken → kept ≡ after_look watcher taken → LooksSo watcher m (Told owed) (put kept) entry
    unfolding answer_of after_call verdict reply admitted looked
    look_told word granted owed kept tells left =
        let is = verdict_is ∙ granted_is (entry_verdict (entry_of w) m.slots) _ word granted in
        let call = WatchRead watcher i in
        let at : slice_get (took i m).watched i ≡ Some taken =
        ap (λ (s : State). slice_get s.watched i) (sym took_there) ∙ nth_set_same m.watched i w taken there in
        let emptied : put kept ≡ looked_nth watcher i (Some taken) (took i m) =
        ap put left ∙ ap (λ ws. with_watched ws after) (sym (set-set m.watched i taken (after_look watcher taken)))
        ∙ ap (looked_nth watcher i (Some taken)) took_there in
        subst (LooksSo watcher m (Told owed) (put kept)) same (
          ap Told (tells ∙ sym (ap (told_nth watcher) at)) ∙ sym (ap (λ v. answer_under v (reply call m)) is),
          emptied ∙ sym (ap (λ o. looked_nth watcher i o (took i m)) at) ∙ sym (ap (λ v. state_under v (admitted call m) m) is),
        )
