use Rattle.std.proofs.Common.{◌≡◌, ℕ, ◌+◌, List, [], ◌++◌, get_or, drop, Some, vec_items, Option, sym, ap, ◌∙◌, append_assoc, arith}
use Rattle.std.proofs.lemmas.List.{append-nil, drop_all, drop_more}
use Rattle.call.specs.declared.answer.Answer.{Answer}
use Rattle.call.specs.declared.answer.Answer.TheVariants.{Data}
use Rattle.trace_format.specs.Lines.{line_of}
use Rattle.trace_format.specs.declared.line.Line.TheVariants.{Answer as AnswerLine}
use Rattle.trace_format.specs.declared.refusal.TraceRefusal.{TraceRefusal}
use Rattle.trace.specs.Traces.{lines_of, stop_text, text_of}
use Rattle.trace.proofs.text.write_text.Goals as goal

pub loop-answer-preserved : goal.loop-answer-preserved
loop-answer-preserved c =
    let i = c.loop-answer.answer-index in
    let answers = c.args.answers.now in
    let now-text = vec_items c.loop-answer.text in
    let line = line_of (AnswerLine (get_or answers i (Data 0))) in
    let more = lines_of (drop (i + 1) answers) in (
      c.loop-answer.invariant.0 ∙ ap (λ (l : List Answer). now-text ++ lines_of l) (drop_more answers i (Data 0) c.loop-answer-test.true)
          ∙ sym (append_assoc now-text line more) ∙ ap (λ (l : List ℕ). l ++ more) (sym c.append.ensures.items),
      omega arith,
    )

-- at the end of the answers the text has all their lines
ended : (start lines now-text rest tail : List ℕ) → start ++ lines ≡ now-text ++ rest → rest ≡ [] → now-text ++ tail ≡ start ++ (lines ++ tail)
ended start lines now-text rest tail all none =
    ap (λ l. l ++ tail) (sym (all ∙ ap (λ l. now-text ++ l) none ∙ append-nil now-text)) ∙ append_assoc start lines tail

pub returns-in-Some : goal.returns-in-Some
returns-in-Some c =
    let rest = lines_of (drop c.loop-answer.answer-index c.args.answers.now) in
    let done : rest ≡ [] = ap lines_of (drop_all c.loop-answer.answer-index c.args.answers.now c.loop-answer-test.false) in
    c.append-in-Some.ensures.items
    ∙ ended (vec_items c.args.text.now) (lines_of c.args.answers.now) (vec_items c.loop-answer.text) rest (stop_text (Some c.in-Some.refusal)) c.loop-answer.invariant.0 done
    ∙ ap (λ (o : Option TraceRefusal). vec_items c.args.text.now ++ text_of c.args.answers.now o) (sym c.in-Some.is)

pub returns-in_default : goal.returns-in_default
returns-in_default c =
    let rest = lines_of (drop c.loop-answer.answer-index c.args.answers.now) in
    let done : rest ≡ [] = ap lines_of (drop_all c.loop-answer.answer-index c.args.answers.now c.loop-answer-test.false) in
    sym (append-nil (vec_items c.loop-answer.text))
    ∙ ended (vec_items c.args.text.now) (lines_of c.args.answers.now) (vec_items c.loop-answer.text) rest [] c.loop-answer.invariant.0 done
    ∙ ap (λ (o : Option TraceRefusal). vec_items c.args.text.now ++ text_of c.args.answers.now o) (sym c.in_default.is)
