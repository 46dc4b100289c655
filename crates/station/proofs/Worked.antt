-- A list of calls, worked one after another.
use Rattle.std.proofs.Common.{◌≡◌, ℕ, ◌+◌, ◌<◌, ◌≤◌, List, [], ◌∷◌, ◌++◌, length, get_or, drop, sym, ap, ◌∙◌, ap₂}
use Rattle.std.proofs.lemmas.List.{append_assoc, append-nil, at_drop_all, at_drop_more}
use Rattle.call.specs.declared.answer.Answer.{Answer}
use Rattle.call.specs.declared.call.Call.{Call}
use Rattle.promise.specs.Rules.{State, after_call, after_calls, answer_of, answers_of}

module _ (m after : State) (calls : List Call) (i : ℕ) (zero_call : Call) (within : i < length calls)
    (left : after ≡ after_call (get_or calls i zero_call) m) where
  -- one answer more
  pub answers_more : (answered more : List Answer) (a : Answer) → a ≡ answer_of (get_or calls i zero_call) m → more ≡ answered ++ (a ∷ [])
      → answered ++ answers_of m (drop i calls) ≡ more ++ answers_of after (drop (i + 1) calls)
  answers_more answered more a told pushed =
      ap (λ (rest : List Answer). answered ++ rest) (at_drop_more (answers_of m) calls i zero_call within ∙ ap₂ (λ x s. x ∷ answers_of s (drop (i + 1) calls)) (sym told) (sym left))
      ∙ sym (append_assoc answered (a ∷ []) (answers_of after (drop (i + 1) calls)))
      ∙ ap (λ (rest : List Answer). rest ++ answers_of after (drop (i + 1) calls)) (sym pushed)

  pub after_more : after_calls m (drop i calls) ≡ after_calls after (drop (i + 1) calls)
  after_more = at_drop_more (after_calls m) calls i zero_call within ∙ ap (λ s. after_calls s (drop (i + 1) calls)) (sym left)

module _ (m : State) (calls : List Call) (i : ℕ) (past : length calls ≤ i) where
  pub answers_all : (answered : List Answer) → answered ++ answers_of m (drop i calls) ≡ answered
  answers_all answered = ap (λ (rest : List Answer). answered ++ rest) (at_drop_all (answers_of m) calls i past) ∙ append-nil answered

  pub after_all : after_calls m (drop i calls) ≡ m
  after_all = at_drop_all (after_calls m) calls i past
