use Rattle.std.proofs.Common.{rules, ◌≡◌, ℕ, ◌+◌, ◌*◌, ◌≤◌, List, [], ◌++◌, length, vec_items, vec_len, vec_capacity, ap, ◌∙◌, subst, ap₂, arith}
use Rattle.call.specs.declared.answer.Answer.{Answer}
use Rattle.call.specs.declared.call.Call.{Call}
use Rattle.promise.specs.Logs.{exchanges}
use Rattle.promise.specs.Promises.{Promise}
use Rattle.promise.specs.Rules.{after_calls, answers_of, set_up}
use Rattle.trace.specs.Traces.{reading_of, text_of}
use Rattle.trace.proofs.Inputs.{input_spelled}
use Rattle.trace.proofs.Parts.{answers_count}
use Rattle.trace.proofs.replay.replay.Goals as goal

pub write_text-requires : goal.write_text-requires
write_text-requires g c =
    let start = set_up (g.B.Bank.slots c.in_ok-bank.bank) c.args.entries.now in
    let ran = c.in_ok-station.ensures.ran in
    let told : length c.as_slice-2.result.now ≡ length c.as_slice.result.now = ap length (c.as_slice-2.ensures.value ∙ ran.answered) ∙ answers_count start c.as_slice.result.now in
    let room : vec_len c.in_ok-bank.text + 11 * vec_len c.in_ok-bank.field-0-1-0.calls + 11 ≤ vec_capacity c.in_ok-bank.text = search rules in
    let as_many : length c.as_slice.result.now ≡ vec_len c.in_ok-bank.field-0-1-0.calls = c.as_slice.ensures.len in
    let fits : vec_len c.in_ok-bank.text + 11 * length c.as_slice-2.result.now + 11 ≤ vec_capacity c.in_ok-bank.text = omega arith in
    fits

pub returns : goal.returns
returns g c =
    let slots = g.B.Bank.slots c.args.bank in
    let entries = c.args.entries.now in
    let start = set_up slots entries in
    let read = reading_of c.args.input.now in
    let bank : c.in_ok-bank.bank ≡ c.args.bank = c.in_ok-bank.ensures.made.0 in
    let spelled : vec_items c.in_ok-bank.field-0-1-0.calls ≡ read.calls = search rules in
    let stop : c.in_ok-bank.field-0-1-0.stop ≡ read.stop = search rules in
    let blank : vec_items c.in_ok-bank.text ≡ [] = search rules in
    let ran = c.in_ok-station.ensures.ran in
    let calls : c.as_slice.result.now ≡ read.calls = c.as_slice.ensures.value ∙ spelled in
    let answers : c.as_slice-2.result.now ≡ answers_of start read.calls =
    c.as_slice-2.ensures.value ∙ ran.answered ∙ ap₂ (λ b cs. answers_of (set_up (g.B.Bank.slots b) entries) cs) bank calls in
    let promise = c.in_ok-station.ensures.promise in
    record {
      replays = record {
        passed = ran.passed;
        spelled = input_spelled c.args.input.now (λ i. omega (arith, c.type_inv.input i));
        text = c.write_text.ensures ∙ ap (λ (l : List ℕ). l ++ text_of c.as_slice-2.result.now c.in_ok-bank.field-0-1-0.stop) blank
            ∙ ap₂ text_of answers stop;
        left = ran.left ∙ ap₂ (λ b cs. after_calls (set_up (g.B.Bank.slots b) entries) cs) bank calls;
      };
      promise = subst (λ b. Promise (g.B.Bank.slots b) entries read.calls (exchanges read.calls (answers_of (set_up (g.B.Bank.slots b) entries) read.calls))) bank
          (subst (λ (cs : List Call). Promise (g.B.Bank.slots c.in_ok-bank.bank) entries cs (exchanges cs (answers_of (set_up (g.B.Bank.slots c.in_ok-bank.bank) entries) cs))) calls
          (subst (λ (told : List Answer). Promise (g.B.Bank.slots c.in_ok-bank.bank) entries c.as_slice.result.now (exchanges c.as_slice.result.now told)) ran.answered promise));
    }
