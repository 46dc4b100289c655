-- Every look has its past: the watcher's previous look, or set-up, and what came since.
use Rattle.std.proofs.Common.{◌≡◌, ℕ, Bool, true, false, ◌⊎◌, [], ◌∷◌, ◌++◌, refl, ap, ◌∙◌, inl, inr, append_assoc}
use Rattle.std.specs.List.{AllByRecursion}
use Rattle.promise.specs.Logs.{Exchange, Log, is_look, Since}
use Rattle.promise.specs.Promises.{EveryLookHasItsPast}

module _ (watcher i : ℕ) where
  -- a log with no look, or the last look in it and what came after
  abbrev Split : Log → Type 0
  Split log =
      AllByRecursion (λ x. is_look watcher i x ≡ false) log
      ⊎ ((past : Log) × (look : Exchange) × (since : Log) × (log ≡ (past ++ (look ∷ [])) ++ since) × (is_look watcher i look ≡ true) × AllByRecursion (λ x. is_look watcher i x ≡ false) since)

  split_more : (x : Exchange) (log : Log) → Split log → (look : Bool) → is_look watcher i x ≡ look → Split (x ∷ log)
  split_more x log (inl none) true is = inr ([], x, log, refl, is, none)
  split_more x log (inl none) false is = inl (is, none)
  split_more x log (inr s) look is = inr (x ∷ s.0, s.1, s.2, ap (λ rest. x ∷ rest) s.3, s.4, s.5)

  split : (log : Log) → Split log
  split [] = inl tt
  split (x ∷ log) = split_more x log (split log) (is_look watcher i x) refl

  pub has_since : (log : Log) → (before : Log) × (since : Log) × (log ≡ before ++ since) × Since watcher i before since
  has_since log = from (split log)
    where
      from : Split log → (before : Log) × (since : Log) × (log ≡ before ++ since) × Since watcher i before since
      from (inl none) = ([], log, refl, record { from_look = inl refl; no_look = none })
      from (inr s) = (s.0 ++ (s.1 ∷ []), s.2, s.3, record { from_look = inr (s.0, s.1, refl, s.4); no_look = s.5 })

pub every_look_has_its_past : (log : Log) → EveryLookHasItsPast log
every_look_has_its_past log watcher i past later look splits is_one =
    let s = has_since watcher i past in (
      s.0,
      s.1,
      s.2,
      record {
        later = later;
        splits = splits ∙ ap (λ front. front ++ (look ∷ later)) s.2 ∙ append_assoc s.0 s.1 (look ∷ later);
        is_one = is_one;
        since_previous = s.3;
      },
    )
