-- What every call does to a view, by the call and its answer alone.
use Rattle.std.proofs.Common.{◌≡◌, ℕ, zero, suc, Bool, true, false, cond, ◌&&◌, eqb, ltb, List, [], ◌∷◌, length, is_ok, Some, None, Ok, Err, Option, Result, sym, refl, ap, ◌∙◌, subst, ⊎_elim, arith}
use Rattle.std.proofs.lemmas.Bool.{cases_eq}
use Rattle.std.proofs.lemmas.Bool.Decides.{nat_tests}
use Rattle.std.specs.List.{slice_get}
use Rattle.frame.specs.Addresses.{same_address}
use Rattle.frame.specs.declared.address.MmdAddress.{MmdAddress}
use Rattle.frame.proofs.Addresses.{one_address}
use Rattle.bank.specs.Slots.{next_place}
use Rattle.bus.specs.Places.{found, place, on_found, after_event, event_taken, from_mmd, register_read, register_written}
use Rattle.mmd.specs.declared.event.Event.{Event}
use Rattle.mmd.specs.declared.event.Event.TheVariants.{Line as LineEvent, Count as CountEvent, Finish as FinishEvent, Reset as ResetEvent}
use Rattle.bus.proofs.Places.{place_event_taken, place_event_taken_elsewhere, event_taken_keeps, place_register_read, place_register_read_elsewhere, register_read_keeps, place_register_written, place_register_written_elsewhere, register_written_keeps}
use Rattle.mmd.specs.Events.{after_read, after_write, after_count, after_finish}
use Rattle.mmd.specs.Meaning.{Meaning}
use Rattle.mmd.specs.Refusals.{count_answer, finish_answer}
use Rattle.mmd.specs.declared.refusal.MmdRefusal.{MmdRefusal}
use Rattle.call.specs.Answers.{is_accepted}
use Rattle.call.specs.declared.call.Call.{Call}
use Rattle.call.specs.declared.call.Call.TheVariants.{WatchRead, At}
use Rattle.call.specs.declared.call.Request.{Request}
use Rattle.call.specs.declared.call.Request.TheVariants.{Read, Write, Line, Count, Finish, Reset}
use Rattle.call.specs.declared.answer.CallRefusal.{CallRefusal}
use Rattle.watch_list.specs.Entries.{address_of, is_of, fed_by, names}
use Rattle.watch_list.specs.Lists.{WellListed}
use Rattle.watch_list.specs.Watches.{entry_of}
use Rattle.watch_list.specs.declared.entry.Entry.{Entry}
use Rattle.watch_list.specs.declared.watch.Watched.{Watched}
use Rattle.promise.specs.Logs.{Exchange, Log, accepted}
use Rattle.promise.proofs.Runs.{FollowsRules, after_log}
use Rattle.promise.specs.Rules.{State, admitted, after_call, answer_of, answer_under, evented, hearing, hears, in_range, is_of_mmd, looked, mmd_verdict, more_frames, place_of, place_verdict, read_by, refused_by, reply, requested, state_under, sweep_step, swept, took, verdict}
use Rattle.promise.proofs.Lists.{nth_within}
use Rattle.promise.proofs.Views.{Sees, Viewing, entry_at, feeds_itself, looked_by_other, looked_elsewhere, looked_own, slots_changed, slots_elsewhere, took_other, took_own}

-- ---- what a call does to a view

module _ (entry : Entry) (i watcher : ℕ) (viewing : Viewing entry watcher) where
  abbrev pub view_asked : Request → viewing.View → viewing.View
  view_asked (Read register) v = cond (eqb register (fed_by entry)) (viewing.read v) v
  view_asked (Write register word) v = v
  view_asked (Line number up) v = viewing.asked (Line number up) v
  view_asked (Count counter amount) v = viewing.asked (Count counter amount) v
  view_asked (Finish register b) v = v
  view_asked Reset v = viewing.read v

  abbrev pub view_called : Call → viewing.View → viewing.View
  view_called (WatchRead w j) v = cond (eqb j i) (cond (eqb w watcher) (viewing.emptied (viewing.read v)) (viewing.read v)) v
  view_called (At p request) v = cond (same_address p (address_of entry)) (view_asked request v) v

  abbrev pub view_by : Exchange → viewing.View → viewing.View
  view_by x v = cond (accepted x) (view_called x.call v) v

  abbrev pub view_after : viewing.View → Log → viewing.View
  view_after v [] = v
  view_after v (x ∷ log) = view_after (view_by x v) log

-- ---- the entry that a register feeds

abbrev pub Heard : MmdAddress → ℕ → List Watched → Option ℕ → Type 0
Heard p r ws None = (j : ℕ) (x : Watched) → slice_get ws j ≡ Some x → hears p r x ≡ false
Heard p r ws (Some j) = (x : Watched) × (slice_get ws j ≡ Some x) × (hears p r x ≡ true)

heard_next : (p : MmdAddress) (r : ℕ) (w : Watched) (ws : List Watched) → hears p r w ≡ false → (o : Option ℕ) → Heard p r ws o → Heard p r (w ∷ ws) (next_place o)
heard_next p r w ws first None none = by_place
  where
    by_place : (j : ℕ) (x : Watched) → slice_get (w ∷ ws) j ≡ Some x → hears p r x ≡ false
    by_place zero x at = let e : w ≡ x = cc in ap (hears p r) (sym e) ∙ first
    by_place (suc j) x at = none j x at
heard_next p r w ws first (Some j) some = some

pub hearing_right : (p : MmdAddress) (r : ℕ) (ws : List Watched) → Heard p r ws (hearing p r ws)
unfolding hearing
hearing_right p r [] = λ j x at. let z : ◌≡◌ {A = ℕ} 0 1 = cc in absurd (omega arith)
hearing_right p r (w ∷ ws) =
    let rest = hearing_right p r ws in
    let by : (t : Bool) → hears p r w ≡ t → Heard p r (w ∷ ws) (cond t (Some 0) (next_place (hearing p r ws))) =
    λ t. elim t as (λ t. hears p r w ≡ t → Heard p r (w ∷ ws) (cond t (Some 0) (next_place (hearing p r ws)))) [ true ↦ (λ e. (w, refl, e)) | false ↦ (λ e. heard_next p r w ws e (hearing p r ws) rest) ] in
    by (hears p r w) refl

-- ---- when a call is admitted

reply_accepted : (c : Call) (m : State) → is_accepted (reply c m) ≡ true
unfolding reply
reply_accepted (WatchRead w j) m = refl
reply_accepted (At p (Read register)) m = refl
reply_accepted (At p (Write register word)) m = refl
reply_accepted (At p (Line number up)) m = refl
reply_accepted (At p (Count counter amount)) m = refl
reply_accepted (At p (Finish register b)) m = refl
reply_accepted (At p Reset) m = refl

module _ (entries : List Entry) (in_order : WellListed entries) (entry : Entry) (i watcher : ℕ) (listed : slice_get entries i ≡ Some entry) (viewing : Viewing entry watcher) where
  abbrev SeesHere : State → viewing.View → Type 0
  SeesHere m v = Sees entries entry i watcher viewing m v

  -- ---- a watch read

  watch_read_by : (m : State) (v : viewing.View) → SeesHere m v → (w j : ℕ) (here own : Bool) → eqb j i ≡ here → eqb w watcher ≡ own
      → SeesHere (looked w j (took j m)) (cond here (cond own (viewing.emptied (viewing.read v)) (viewing.read v)) v)
  watch_read_by m v s w j true true here own =
      let ji : i ≡ j = grind (arith, nat_tests) in
      let ww : watcher ≡ w = grind (arith, nat_tests) in
      let read = took_own entries in_order entry i watcher listed viewing m v s in
      let emptied = looked_own entries in_order entry i watcher listed viewing (took i m) (viewing.read v) read in
      subst (λ n. SeesHere (looked w n (took n m)) (viewing.emptied (viewing.read v))) ji
      (subst (λ n. SeesHere (looked n i (took i m)) (viewing.emptied (viewing.read v))) ww emptied)
  watch_read_by m v s w j true false here own =
      let ji : i ≡ j = grind (arith, nat_tests) in
      let read = took_own entries in_order entry i watcher listed viewing m v s in
      let kept = looked_by_other entries in_order entry i watcher listed viewing (took i m) (viewing.read v) read w (λ e. grind (arith, nat_tests)) in
      subst (λ n. SeesHere (looked w n (took n m)) (viewing.read v)) ji kept
  watch_read_by m v s w j false own here by =
      let apart : i ≡ j → ⊥ = λ e. grind (arith, nat_tests) in
      looked_elsewhere entries in_order entry i watcher listed viewing (took j m) v (took_other entries in_order entry i watcher listed viewing m v s j apart) w j apart

  -- ---- a sweep of the entries of an MMD, through the first k

  module _ (m : State) (v : viewing.View) (s : SeesHere m v) (p : MmdAddress) where
    abbrev here : Bool
    here = is_of p entry

    -- whether the entry is of that MMD and among the first k
    abbrev passed : ℕ → Bool
    passed k = here && ltb i k

    sweep_own : (k : ℕ) (st : State) (u : viewing.View) → SeesHere st u → k ≡ i → (of_it : Bool) → is_of_mmd p (slice_get st.watched k) ≡ of_it → here ≡ of_it
        → SeesHere (cond of_it (took k st) st) (cond of_it (viewing.read u) u)
    sweep_own k st u seen e true test same = subst (λ n. SeesHere (took n st) (viewing.read u)) (sym e) (took_own entries in_order entry i watcher listed viewing st u seen)
    sweep_own k st u seen e false test same = seen

    sweep_other : (k : ℕ) (st : State) (u : viewing.View) → SeesHere st u → (i ≡ k → ⊥) → (of_it : Bool) → SeesHere (cond of_it (took k st) st) u
    sweep_other k st u seen apart true = took_other entries in_order entry i watcher listed viewing st u seen k apart
    sweep_other k st u seen apart false = seen

    own_test : (st : State) (u : viewing.View) (seen : SeesHere st u) (k : ℕ) → k ≡ i → is_of_mmd p (slice_get st.watched k) ≡ here
    own_test st u seen k e =
        let at = entry_at st.watched entries i seen.kept seen.same_entries seen.in_list in
        let is : entry_of seen.kept ≡ entry = cc in
        ap (λ n. is_of_mmd p (slice_get st.watched n)) e ∙ ap (is_of_mmd p) seen.in_list ∙ ap (is_of p) is

    swept_seen : (k : ℕ) → SeesHere (swept p k m) (cond (passed k) (viewing.read v) v)
    unfolding swept
    swept_seen zero = let none : passed zero ≡ false = grind (arith, nat_tests) in subst (λ b. SeesHere m (cond b (viewing.read v) v)) (sym none) s
    swept_seen (suc k) =
        let before = swept_seen k in
        let st = swept p k m in
        ⊎_elim
        (λ (e : k ≡ i).
        let not_yet : passed k ≡ false = grind (arith, nat_tests) in
        let now_so : passed (suc k) ≡ here = grind (arith, nat_tests) in
        let at : SeesHere st v = subst (λ b. SeesHere st (cond b (viewing.read v) v)) not_yet before in
        let test = own_test st v at k e in
        subst (λ b. SeesHere (sweep_step p k st) (cond b (viewing.read v) v)) (sym now_so)
        (subst (λ b. SeesHere (cond b (took k st) st) (cond here (viewing.read v) v)) (sym test) (sweep_own k st v at e here test refl)))
        (λ (n : k ≡ i → ⊥).
        let same : passed (suc k) ≡ passed k = grind (arith, nat_tests) in
        subst (λ b. SeesHere (sweep_step p k st) (cond b (viewing.read v) v)) (sym same)
        (sweep_other k st (cond (passed k) (viewing.read v) v) before (λ e. n (sym e)) (is_of_mmd p (slice_get st.watched k))))
        (cases_eq k i)

  -- ---- a plain read

  own_hears : (m : State) (v : viewing.View) (s : SeesHere m v) (p : MmdAddress) (r : ℕ) → hears p r s.kept ≡ (is_of p entry && eqb (fed_by entry) r)
  own_hears m v s p r =
      let at = entry_at m.watched entries i s.kept s.same_entries s.in_list in
      let is : entry_of s.kept ≡ entry = cc in
      ap (λ e. is_of p e && eqb (fed_by e) r) is

  heard_own : (m : State) (v : viewing.View) (s : SeesHere m v) (p : MmdAddress) (r j : ℕ) (x : Watched) → slice_get m.watched j ≡ Some x → hears p r x ≡ true
      → is_of p entry ≡ true → fed_by entry ≡ r → i ≡ j
  heard_own m v s p r j x there hears_it of_it feeds =
      let named = feeds_itself entry in
      let named_there = feeds_itself (entry_of x) in
      let at = entry_at m.watched entries j x s.same_entries there in
      ⊎_elim (λ e. e)
      (λ (apart : i ≡ j → ⊥).
      let same : is_of (address_of entry) (entry_of x) ≡ true = grind (arith, nat_tests) in
      let fed : fed_by (entry_of x) ≡ fed_by entry = grind (arith, nat_tests) in
      let not_named = in_order.apart i j entry (entry_of x) listed at apart same (fed_by entry) named in
      let both : true ≡ false = sym named_there ∙ ap (λ n. names n (entry_of x)) fed ∙ not_named in
      let z : ◌≡◌ {A = ℕ} 0 1 = cc in omega arith)
      (cases_eq i j)

  read_heard : (m : State) (v : viewing.View) → SeesHere m v → (p : MmdAddress) (r j : ℕ) (x : Watched) → slice_get m.watched j ≡ Some x → hears p r x ≡ true
      → (own : Bool) → (is_of p entry && eqb (fed_by entry) r) ≡ own → SeesHere (took j m) (cond own (viewing.read v) v)
  read_heard m v s p r j x there hears_it true own =
      let e = heard_own m v s p r j x there hears_it (grind (arith, nat_tests)) (grind (arith, nat_tests)) in
      subst (λ n. SeesHere (took n m) (viewing.read v)) e (took_own entries in_order entry i watcher listed viewing m v s)
  read_heard m v s p r j x there hears_it false own =
      took_other entries in_order entry i watcher listed viewing m v s j
      (λ e.
      let mine = own_hears m v s p r in
      let here : slice_get m.watched i ≡ Some x = ap (slice_get m.watched) e ∙ there in
      let same : s.kept ≡ x = let k = s.in_list in cc in
      let both : true ≡ false = sym hears_it ∙ ap (hears p r) (sym same) ∙ mine ∙ own in
      let z : ◌≡◌ {A = ℕ} 0 1 = cc in omega arith)

  -- an address written either way round
  flip : (p : MmdAddress) → same_address p (address_of entry) ≡ is_of p entry
  flip p = grind (arith, nat_tests)

  read_unheard : (m : State) (v : viewing.View) (s : SeesHere m v) (p : MmdAddress) (r : ℕ) → (is_of p entry && eqb (fed_by entry) r) ≡ false
      → (here : Bool) → is_of p entry ≡ here → SeesHere (read_by p r None m) v
  read_unheard m v s p r unfed true here =
      let there : address_of entry ≡ p = one_address (address_of entry) p here in
      let at : place_of entry (register_read p r m.slots) ≡ on_found (λ mm. after_read mm r) (place_of entry m.slots) =
      ap (λ a. place a (register_read p r m.slots)) there ∙ place_register_read p r m.slots
      ∙ ap (on_found (λ mm. after_read mm r)) (ap (λ a. place a m.slots) (sym there)) in
      slots_changed entries in_order entry i watcher listed viewing m v v s (register_read p r m.slots) (more_frames 2 m.frames) (λ mm. after_read mm r)
      at (register_read_keeps p r m.slots s.slots_keep)
      (viewing.shows_other_read s.mmd v r (λ e. grind (arith, nat_tests)) s.shows) s.owed
  read_unheard m v s p r unfed false other =
      let apart : same_address p (address_of entry) ≡ false = grind (arith, nat_tests) in
      slots_elsewhere entries in_order entry i watcher listed viewing m v s (register_read p r m.slots) (more_frames 2 m.frames)
      (place_register_read_elsewhere p r (address_of entry) m.slots apart) (register_read_keeps p r m.slots s.slots_keep)

  read_by_seen : (m : State) (v : viewing.View) → SeesHere m v → (p : MmdAddress) (r : ℕ) (o : Option ℕ) → Heard p r m.watched o
      → SeesHere (read_by p r o m) (cond (is_of p entry && eqb (fed_by entry) r) (viewing.read v) v)
  read_by_seen m v s p r None none =
      let unfed : (is_of p entry && eqb (fed_by entry) r) ≡ false = sym (own_hears m v s p r) ∙ none i s.kept s.in_list in
      subst (λ b. SeesHere (read_by p r None m) (cond b (viewing.read v) v)) (sym unfed) (read_unheard m v s p r unfed (is_of p entry) refl)
  read_by_seen m v s p r (Some j) some =
      read_heard m v s p r j some.0 some.1 some.2 (is_of p entry && eqb (fed_by entry) r) refl

  -- ---- a write

  write_seen : (m : State) (v : viewing.View) (s : SeesHere m v) (p : MmdAddress) (r word : ℕ) (here : Bool) → is_of p entry ≡ here → SeesHere (requested p (Write r word) m) v
  write_seen m v s p r word true here =
      let there : address_of entry ≡ p = one_address (address_of entry) p here in
      let at : place_of entry (register_written p r word m.slots) ≡ on_found (λ mm. after_write mm r word) (place_of entry m.slots) =
      ap (λ a. place a (register_written p r word m.slots)) there ∙ place_register_written p r word m.slots
      ∙ ap (on_found (λ mm. after_write mm r word)) (ap (λ a. place a m.slots) (sym there)) in
      slots_changed entries in_order entry i watcher listed viewing m v v s (register_written p r word m.slots) (more_frames 2 m.frames) (λ mm. after_write mm r word)
      at (register_written_keeps p r word m.slots s.slots_keep) (viewing.shows_write s.mmd v r word s.shows) s.owed
  write_seen m v s p r word false other =
      let apart : same_address p (address_of entry) ≡ false = grind (arith, nat_tests) in
      slots_elsewhere entries in_order entry i watcher listed viewing m v s (register_written p r word m.slots) (more_frames 2 m.frames)
      (place_register_written_elsewhere p r word (address_of entry) m.slots apart) (register_written_keeps p r word m.slots s.slots_keep)

  -- ---- an event

  event_here : (m : State) (v u : viewing.View) (s : SeesHere m v) (p : MmdAddress) (event : Event) → is_of p entry ≡ true
      → viewing.Shows (after_event event s.mmd) u → viewing.KeepsOwed s.kept u → SeesHere (evented p event m) u
  event_here m v u s p event here shows owed =
      let there : address_of entry ≡ p = one_address (address_of entry) p here in
      let at : place_of entry (event_taken p event m.slots) ≡ on_found (after_event event) (place_of entry m.slots) =
      ap (λ a. place a (event_taken p event m.slots)) there ∙ place_event_taken p event m.slots
      ∙ ap (on_found (after_event event)) (ap (λ a. place a m.slots) (sym there)) in
      slots_changed entries in_order entry i watcher listed viewing m v u s (event_taken p event m.slots) m.frames (after_event event)
      at (event_taken_keeps p event m.slots s.slots_keep) shows owed

  event_elsewhere : (m : State) (v : viewing.View) (s : SeesHere m v) (p : MmdAddress) (event : Event) → is_of p entry ≡ false → SeesHere (evented p event m) v
  event_elsewhere m v s p event other =
      let apart : same_address p (address_of entry) ≡ false = grind (arith, nat_tests) in
      slots_elsewhere entries in_order entry i watcher listed viewing m v s (event_taken p event m.slots) m.frames
      (place_event_taken_elsewhere p event (address_of entry) m.slots apart) (event_taken_keeps p event m.slots s.slots_keep)

  accepts : (answer : Result (Unit {0}) MmdRefusal) → refused_by answer ≡ None → answer ≡ Ok tt
  accepts (Ok u) none = refl
  accepts (Err e) none = let z : ◌≡◌ {A = ℕ} 0 1 = cc in absurd (omega arith)

  -- what an admitted request does at this entry's MMD
  request_here : (m : State) (v : viewing.View) (s : SeesHere m v) (p : MmdAddress) (q : Request) → is_of p entry ≡ true → in_range q ≡ true → mmd_verdict q s.mmd ≡ None
      → SeesHere (requested p q m) (view_asked entry i watcher viewing q v)
  request_here m v s p (Read r) here fits admits =
      let same : (is_of p entry && eqb (fed_by entry) r) ≡ eqb r (fed_by entry) = grind (arith, nat_tests) in
      subst (λ b. SeesHere (read_by p r (hearing p r m.watched) m) (cond b (viewing.read v) v)) same
      (read_by_seen m v s p r (hearing p r m.watched) (hearing_right p r m.watched))
  request_here m v s p (Write r word) here fits admits = write_seen m v s p r word true here
  request_here m v s p (Line n up) here fits admits =
      event_here m v (viewing.asked (Line n up) v) s p (LineEvent n up) here (viewing.shows_line s.mmd v n up (grind (arith, nat_tests)) s.shows) (viewing.owed_asked s.kept v (Line n up) s.owed)
  request_here m v s p (Count k amount) here fits admits =
      let ok = accepts (count_answer s.mmd k) admits in
      event_here m v (viewing.asked (Count k amount) v) s p (CountEvent k amount) here
      (subst (λ a. viewing.Shows (cond (is_ok (from_mmd a)) (after_count s.mmd k amount) s.mmd) (viewing.asked (Count k amount) v)) (sym ok) (viewing.shows_count s.mmd v k amount s.shows))
      (viewing.owed_asked s.kept v (Count k amount) s.owed)
  request_here m v s p (Finish r b) here fits admits =
      let ok = accepts (finish_answer s.mmd r b) admits in
      event_here m v v s p (FinishEvent r b) here
      (subst (λ a. viewing.Shows (cond (is_ok (from_mmd a)) (after_finish s.mmd r b) s.mmd) v) (sym ok) (viewing.shows_finish s.mmd v r b s.shows))
      s.owed
  request_here m v s p Reset here fits admits =
      let within = nth_within m.watched i s.kept s.in_list in
      let k = length m.watched in
      let all : (is_of p entry && ltb i k) ≡ true = grind (arith, nat_tests) in
      let swept_all : SeesHere (swept p k m) (viewing.read v) =
      subst (λ b. SeesHere (swept p k m) (cond b (viewing.read v) v)) all (swept_seen m v s p k) in
      event_here (swept p k m) (viewing.read v) (viewing.read v) swept_all p ResetEvent here
      (viewing.shows_reset swept_all.mmd v swept_all.shows) swept_all.owed

  -- and at another MMD
  request_elsewhere : (m : State) (v : viewing.View) (s : SeesHere m v) (p : MmdAddress) (q : Request) → is_of p entry ≡ false → SeesHere (requested p q m) v
  request_elsewhere m v s p (Read r) other =
      let none : (is_of p entry && eqb (fed_by entry) r) ≡ false = grind (arith, nat_tests) in
      subst (λ b. SeesHere (read_by p r (hearing p r m.watched) m) (cond b (viewing.read v) v)) none
      (read_by_seen m v s p r (hearing p r m.watched) (hearing_right p r m.watched))
  request_elsewhere m v s p (Write r word) other = write_seen m v s p r word false other
  request_elsewhere m v s p (Line n up) other = event_elsewhere m v s p (LineEvent n up) other
  request_elsewhere m v s p (Count k amount) other = event_elsewhere m v s p (CountEvent k amount) other
  request_elsewhere m v s p (Finish r b) other = event_elsewhere m v s p (FinishEvent r b) other
  request_elsewhere m v s p Reset other =
      let k = length m.watched in
      let none : (is_of p entry && ltb i k) ≡ false = grind (arith, nat_tests) in
      let swept_all : SeesHere (swept p k m) v = subst (λ b. SeesHere (swept p k m) (cond b (viewing.read v) v)) none (swept_seen m v s p k) in
      event_elsewhere (swept p k m) v swept_all p ResetEvent other

  -- ---- every call

  admits : (p : MmdAddress) (q : Request) (m : State) (mmd : Meaning) → place p m.slots ≡ found mmd → verdict (At p q) m ≡ None → (in_range q ≡ true) × (mmd_verdict q mmd ≡ None)
  unfolding verdict
  admits p q m mmd at none =
      let fits : in_range q ≡ true = grind (arith, nat_tests) in
      (fits, ap (place_verdict (mmd_verdict q)) (sym at) ∙ grind (arith, nat_tests))

  request_seen : (m : State) (v : viewing.View) (s : SeesHere m v) (p : MmdAddress) (q : Request) → verdict (At p q) m ≡ None → (here : Bool) → is_of p entry ≡ here
      → SeesHere (requested p q m) (cond here (view_asked entry i watcher viewing q v) v)
  request_seen m v s p q none true here =
      let there : address_of entry ≡ p = one_address (address_of entry) p here in
      let at : place p m.slots ≡ found s.mmd = ap (λ a. place a m.slots) (sym there) ∙ s.at_place in
      let ok = admits p q m s.mmd at none in
      request_here m v s p q here ok.0 ok.1
  request_seen m v s p q none false other = request_elsewhere m v s p q other

  admitted_seen : (m : State) (v : viewing.View) → SeesHere m v → (c : Call) → verdict c m ≡ None → SeesHere (admitted c m) (view_called entry i watcher viewing c v)
  unfolding admitted
  admitted_seen m v s (WatchRead w j) none = watch_read_by m v s w j (eqb j i) (eqb w watcher) refl refl
  admitted_seen m v s (At p q) none =
      subst (λ b. SeesHere (requested p q m) (cond b (view_asked entry i watcher viewing q v) v)) (sym (flip p)) (request_seen m v s p q none (is_of p entry) refl)

  call_seen_under : (m : State) (v : viewing.View) → SeesHere m v → (c : Call) (o : Option CallRefusal) → verdict c m ≡ o
      → SeesHere (state_under o (admitted c m) m) (view_by entry i watcher viewing (record { call = c; answer = answer_under o (reply c m) }) v)
  call_seen_under m v s c None none =
      subst (λ b. SeesHere (admitted c m) (cond b (view_called entry i watcher viewing c v) v)) (sym (reply_accepted c m)) (admitted_seen m v s c none)
  call_seen_under m v s c (Some refusal) refused = s

  -- every call changes the view as its exchange says
  pub call_seen : (m : State) (v : viewing.View) → SeesHere m v → (x : Exchange) → x.answer ≡ answer_of x.call m
      → SeesHere (after_call x.call m) (view_by entry i watcher viewing x v)
  unfolding after_call answer_of
  call_seen m v s x right =
      subst (λ a. SeesHere (after_call x.call m) (view_by entry i watcher viewing (record { call = x.call; answer = a }) v)) (sym right)
      (call_seen_under m v s x.call (verdict x.call m) refl)

  -- and so does every log that follows the rules
  pub log_seen : (m : State) (v : viewing.View) → SeesHere m v → (log : Log) → FollowsRules m log → SeesHere (after_log m log) (view_after entry i watcher viewing v log)
  log_seen m v s [] right = s
  log_seen m v s (x ∷ log) right =
      log_seen (after_call x.call m) (view_by entry i watcher viewing x v) (call_seen m v s x right.0) log right.1
