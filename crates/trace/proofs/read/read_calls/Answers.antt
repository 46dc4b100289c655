use Rattle.std.proofs.Common.{rules, ◌≡◌, List, [], ◌∷◌, ◌++◌, Some, None, Ok, Err, vec_items, sym, ap, ◌∙◌, append_assoc, arith}
use Rattle.std.proofs.lemmas.List.{append-nil}
use Rattle.call.specs.declared.call.Call.{Call}
use Rattle.trace_format.specs.Records.{Taken, decode_of}
use Rattle.trace_format.proofs.Decoding.{takes_some}
use Rattle.trace.specs.Traces.{Reading, reading_of}
use Rattle.trace.proofs.Inputs.{reading_more, reading_ends, reading_stops}
use Rattle.trace.proofs.read.read_calls.Goals as goal
use Rattle.trace.proofs.read.read_calls.Goals.{in-Ok-None, in-Err}

pub loop-call-smaller : goal.loop-call-smaller
loop-call-smaller c =
    let taken : Taken = record { call = c.in-Ok-Some.field-0-0.call; rest = c.in-Ok-Some.field-0-0.rest.now } in
    let took : Ok (Some taken) ≡ decode_of c.loop-call.rest.now = search rules in
    let less = takes_some c.loop-call.rest.now taken (sym took) in
    omega arith

pub loop-call-preserved : goal.loop-call-preserved
loop-call-preserved c =
    let taken : Taken = record { call = c.in-Ok-Some.field-0-0.call; rest = c.in-Ok-Some.field-0-0.rest.now } in
    let took : Ok (Some taken) ≡ decode_of c.loop-call.rest.now = search rules in
    let step = reading_more c.loop-call.rest.now taken took in
    let more = reading_of taken.rest in (
      c.loop-call.invariant.0 ∙ ap (λ (r : Reading). vec_items c.loop-call.calls ++ r.calls) step
          ∙ sym (append_assoc (vec_items c.loop-call.calls) (taken.call ∷ []) more.calls) ∙ ap (λ (l : List Call). l ++ more.calls) (search rules),
      c.loop-call.invariant.1 ∙ ap (λ (r : Reading). r.stop) step,
    )

pub returns : goal.returns
returns c =
    elim c.match-decode.branch [
      | in-Ok-None w ↦
          let ended : Ok None ≡ decode_of c.loop-call.rest.now = search rules in
          let step = reading_ends c.loop-call.rest.now ended in (
            sym (c.loop-call.invariant.0 ∙ ap (λ (r : Reading). vec_items c.loop-call.calls ++ r.calls) step ∙ append-nil (vec_items c.loop-call.calls)),
            w.stop-is ∙ sym (c.loop-call.invariant.1 ∙ ap (λ (r : Reading). r.stop) step),
          )
      | in-Err w ↦
          let stopped : Err w.in-Err.refusal ≡ decode_of c.loop-call.rest.now = search rules in
          let step = reading_stops c.loop-call.rest.now w.in-Err.refusal stopped in (
            sym (c.loop-call.invariant.0 ∙ ap (λ (r : Reading). vec_items c.loop-call.calls ++ r.calls) step ∙ append-nil (vec_items c.loop-call.calls)),
            w.stop-is ∙ sym (c.loop-call.invariant.1 ∙ ap (λ (r : Reading). r.stop) step),
          )
    ]
