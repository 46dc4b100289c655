-- Logs whose answers are those of the rules.
use Rattle.std.proofs.Common.{◌≡◌, List, [], ◌∷◌, ◌++◌, refl}
use Rattle.call.specs.declared.call.Call.{Call}
use Rattle.promise.specs.Logs.{Log, exchanges}
use Rattle.promise.specs.Rules.{State, after_call, answer_of, answers_of}

abbrev pub FollowsRules : State → Log → Type 0
FollowsRules m [] = Unit {0}
FollowsRules m (x ∷ log) = (x.answer ≡ answer_of x.call m) × FollowsRules (after_call x.call m) log

abbrev pub after_log : State → Log → State
after_log m [] = m
after_log m (x ∷ log) = after_log (after_call x.call m) log

pub run_follows : (m : State) (calls : List Call) → FollowsRules m (exchanges calls (answers_of m calls))
run_follows m [] = tt
run_follows m (c ∷ calls) = (refl, run_follows (after_call c m) calls)

pub follows_front : (m : State) (front back : Log) → FollowsRules m (front ++ back) → FollowsRules m front
follows_front m [] back right = tt
follows_front m (x ∷ front) back right = (right.0, follows_front (after_call x.call m) front back right.1)

pub follows_back : (m : State) (front back : Log) → FollowsRules m (front ++ back) → FollowsRules (after_log m front) back
follows_back m [] back right = right
follows_back m (x ∷ front) back right = follows_back (after_call x.call m) front back right.1

pub after_log_append : (m : State) (front back : Log) → after_log m (front ++ back) ≡ after_log (after_log m front) back
after_log_append m [] back = refl
after_log_append m (x ∷ front) back = after_log_append (after_call x.call m) front back
