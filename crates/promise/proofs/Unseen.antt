-- Calls that name an MMD get the same answers whatever stands beside it: of every two runs.
use Rattle.std.proofs.Common.{◌≡◌, ℕ, Bool, true, false, cond, ◌&&◌, leb, List, [], ◌∷◌, Some, None, Option, sym, refl, ap, ◌∙◌, subst, ap₂}
use Rattle.std.specs.List.{slice_get}
use Rattle.frame.specs.declared.address.MmdAddress.{MmdAddress}
use Rattle.frame.proofs.Addresses.{one_address}
use Rattle.frame.specs.Addresses.{addressable}
use Rattle.bank.specs.Slots.{SlotMeaning}
use Rattle.call.specs.declared.answer.Answer.{Answer}
use Rattle.call.specs.declared.answer.Answer.TheVariants.{Data, Told}
use Rattle.call.specs.declared.answer.CallRefusal.{CallRefusal}
use Rattle.call.specs.declared.answer.CallRefusal.TheVariants.{OutOfRange}
use Rattle.call.specs.declared.call.Call.{Call}
use Rattle.call.specs.declared.call.Call.TheVariants.{WatchRead, At}
use Rattle.call.specs.declared.call.Request.{Request}
use Rattle.call.specs.declared.call.Request.TheVariants.{Read, Write, Line, Count, Finish, Reset}
use Rattle.watch_list.specs.Watches.{entry_of}
use Rattle.watch_list.specs.declared.entry.Entry.{Entry}
use Rattle.promise.specs.Logs.{Log, call_names, calls_naming, exchanges, exchanges_naming}
use Rattle.promise.specs.Promises.{UnseenBeside}
use Rattle.promise.specs.Rules.{State, admitted, after_call, answer_of, answer_under, answers_of, data_of, in_range, is_of_mmd, mmd_verdict, place_of, place_verdict, reply, request_reply, set_up, state_under, told_nth, took, verdict, watch_verdict}
use Rattle.promise.proofs.Beside.{Alike, found_of, listed_of, looked_both, looked_left, place_at, requested_both, requested_left, took_both, took_left}
use Rattle.promise.proofs.Looking.{new_entries}

module _ (p : MmdAddress) (entries : List Entry) where
  -- ---- a call that names the MMD: the same verdict, the same answer, and alike afterwards

  pub record AnsweredAlike (c : Call) (m n : State) : Type 0 where
    pub same_verdict : verdict c m ≡ verdict c n
    pub same_reply : reply c m ≡ reply c n
    pub left_alike : Alike p entries (admitted c m) (admitted c n)

  watch_alike : (m n : State) → Alike p entries m n → (w j : ℕ) → is_of_mmd p (slice_get m.watched j) ≡ true → AnsweredAlike (WatchRead w j) m n
  unfolding verdict reply admitted
  watch_alike m n alike w j of_it =
      let it = found_of p entries (slice_get m.watched j) of_it in
      let x = it.0 in
      let m_has = it.1 in
      let n_has = alike.same_kept j x m_has it.2 in
      let e = entry_of x in
      let same_place : place_of e m.slots ≡ place_of e n.slots = place_at p entries e it.2 m.slots ∙ alike.same_place ∙ sym (place_at p entries e it.2 n.slots) in
      let read = took_both p entries m n alike j x m_has it.2 in
      let after_of : is_of_mmd p (slice_get (took j m).watched j) ≡ true = listed_of p entries (took j m).watched read.left_entries j ∙ sym (listed_of p entries m.watched alike.left_entries j) ∙ of_it in
      let after = found_of p entries (slice_get (took j m).watched j) after_of in
      record {
        same_verdict = ap (λ o. watch_verdict w o m.slots) m_has
            ∙ ap (λ at. cond (leb w 7) (place_verdict (λ _. None) at) (Some OutOfRange)) same_place ∙ sym (ap (λ o. watch_verdict w o n.slots) n_has);
        same_reply = ap Told (ap (told_nth w) (after.1 ∙ sym (read.same_kept j after.0 after.1 after.2)));
        left_alike = looked_both p entries (took j m) (took j n) read w j after.0 after.1 after.2;
      }

  reply_alike : (m n : State) → Alike p entries m n → (q : Request) → request_reply p q m ≡ request_reply p q n
  reply_alike m n alike (Read r) = ap (λ at. Data (data_of r at)) alike.same_place
  reply_alike m n alike (Write r word) = refl
  reply_alike m n alike (Line k up) = refl
  reply_alike m n alike (Count k amount) = refl
  reply_alike m n alike (Finish r b) = refl
  reply_alike m n alike Reset = refl

  request_alike : (m n : State) → Alike p entries m n → (q : Request) → AnsweredAlike (At p q) m n
  unfolding verdict reply admitted
  request_alike m n alike q =
      record {
        same_verdict = ap (λ at. cond (addressable p && in_range q) (place_verdict (mmd_verdict q) at) (Some OutOfRange)) alike.same_place;
        same_reply = reply_alike m n alike q;
        left_alike = requested_both p entries m n alike q;
      }

  call_alike : (m n : State) → Alike p entries m n → (c : Call) → call_names p entries c ≡ true → AnsweredAlike c m n
  call_alike m n alike (WatchRead w j) names = watch_alike m n alike w j (listed_of p entries m.watched alike.left_entries j ∙ names)
  call_alike m n alike (At q request) names =
      subst (λ a. AnsweredAlike (At a request) m n) (sym (one_address q p names)) (request_alike m n alike request)

  -- what the verdict decides, it decides alike
  under_alike : (c : Call) (m n : State) → Alike p entries m n → (o : Option CallRefusal) → Alike p entries (admitted c m) (admitted c n)
      → Alike p entries (state_under o (admitted c m) m) (state_under o (admitted c n) n)
  under_alike c m n alike None left = left
  under_alike c m n alike (Some e) left = alike

  named_call : (m n : State) → Alike p entries m n → (c : Call) → call_names p entries c ≡ true
      → (answer_of c m ≡ answer_of c n) × Alike p entries (after_call c m) (after_call c n)
  unfolding answer_of after_call
  named_call m n alike c names =
      let same = call_alike m n alike c names in (
        ap₂ answer_under same.same_verdict same.same_reply,
        subst (λ o. Alike p entries (after_call c m) (state_under o (admitted c n) n)) same.same_verdict (under_alike c m n alike (verdict c m) same.left_alike),
      )

  -- ---- a call that names another leaves the likeness

  admitted_left : (m n : State) → Alike p entries m n → (c : Call) → call_names p entries c ≡ false → Alike p entries (admitted c m) n
  unfolding admitted
  admitted_left m n alike (WatchRead w j) other =
      let not_of : is_of_mmd p (slice_get m.watched j) ≡ false = listed_of p entries m.watched alike.left_entries j ∙ other in
      let read = took_left p entries m n alike j not_of in
      looked_left p entries (took j m) n read w j (listed_of p entries (took j m).watched read.left_entries j ∙ other)
  admitted_left m n alike (At q request) other = requested_left p entries m n alike q other request

  unnamed_call : (m n : State) → Alike p entries m n → (c : Call) → call_names p entries c ≡ false → Alike p entries (after_call c m) n
  unfolding after_call
  unnamed_call m n alike c other = under (verdict c m)
    where
      under : (o : Option CallRefusal) → Alike p entries (state_under o (admitted c m) m) n
      under None = admitted_left m n alike c other
      under (Some e) = alike

  -- ---- the exchanges that name the MMD are those of the calls that name it, alone

  abbrev log_of : State → List Call → Log
  log_of m calls = exchanges calls (answers_of m calls)

  alone : (calls : List Call) (m n : State) → Alike p entries m n → exchanges_naming p entries (log_of m calls) ≡ log_of n (calls_naming p entries calls)
  alone [] m n alike = refl
  alone (c ∷ calls) m n alike = by (λ a b like. alone calls a b like) (call_names p entries c) refl
    where
      by : ((a b : State) → Alike p entries a b → exchanges_naming p entries (log_of a calls) ≡ log_of b (calls_naming p entries calls))
          → (names : Bool) → call_names p entries c ≡ names
          → cond names (record { call = c; answer = answer_of c m } ∷ exchanges_naming p entries (log_of (after_call c m) calls)) (exchanges_naming p entries (log_of (after_call c m) calls))
          ≡ log_of n (cond names (c ∷ calls_naming p entries calls) (calls_naming p entries calls))
      by rest true names =
          let same = named_call m n alike c names in
          ap₂ (λ (a : Answer) (log : Log). record { call = c; answer = a } ∷ log) same.0 (rest (after_call c m) (after_call c n) same.1)
      by rest false other = rest (after_call c m) n (unnamed_call m n alike c other)

pub unseen_beside : (slots : List SlotMeaning) (entries : List Entry) (calls : List Call) → UnseenBeside slots entries calls (exchanges calls (answers_of (set_up slots entries) calls))
unseen_beside slots entries calls address m other_slots other_calls other_answers here there ruled same_calls =
    let start = set_up slots entries in
    let other = set_up other_slots entries in
    let itself : Alike address entries start start =
    record { same_place = refl; left_entries = new_entries entries; right_entries = new_entries entries; same_kept = λ i x at of_it. at } in
    let alike : Alike address entries other start =
    record { same_place = there ∙ sym here; left_entries = new_entries entries; right_entries = new_entries entries; same_kept = λ i x at of_it. at } in
    alone address entries calls start start itself
    ∙ ap (λ cs. exchanges cs (answers_of start cs)) same_calls
    ∙ sym (alone address entries other_calls other start alike)
    ∙ ap (λ answers. exchanges_naming address entries (exchanges other_calls answers)) (sym ruled)
