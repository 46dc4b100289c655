use Rattle.std.proofs.Common.{Ok, sym, ap, ◌∙◌, arith}
use Rattle.station.specs.Stations.{state_of}
use Rattle.trace.specs.Steps.{outcome}
use Rattle.trace.proofs.Worked.{ends_there, goes_on, stops_there, working_start}
use Rattle.trace.proofs.part.replay_part.Goals as goal

pub loop-station-init : goal.loop-station-init
loop-station-init g c =
    working_start (state_of g.B.Bank.slots c.args.station.now) c.args.input.now c.args.last c.args.lines.now (λ i. omega (arith, c.type_inv.input i))

pub loop-station-smaller : goal.loop-station-smaller
loop-station-smaller g c =
    let at = c.loop-station in
    let came = ap (λ p. Ok (outcome p)) (sym c.in-Answered.is) ∙ c.in-Ok.ensures.result in
    (goes_on _ _ _ _ _ _ _ _ _ at.invariant c.step.ensures.state c.step.ensures.buffer c.in-Answered.length c.in-Answered.more.now came).shorter

pub loop-station-preserved : goal.loop-station-preserved
loop-station-preserved g c =
    let at = c.loop-station in
    let came = ap (λ p. Ok (outcome p)) (sym c.in-Answered.is) ∙ c.in-Ok.ensures.result in
    (goes_on _ _ _ _ _ _ _ _ _ at.invariant c.step.ensures.state c.step.ensures.buffer c.in-Answered.length c.in-Answered.more.now came).working

pub returns-in-Stopped-clause-worked : goal.returns-in-Stopped-clause-worked
returns-in-Stopped-clause-worked g c =
    let at = c.loop-station in
    let came = ap (λ p. Ok (outcome p)) (sym c.in-Stopped.is) ∙ c.in-Ok.ensures.result in
    (stops_there _ _ _ _ _ _ _ _ _ at.invariant c.step.ensures.state c.step.ensures.buffer c.in-Stopped.length came (sym c.is_whole.ensures ∙ c.loop-station-test.true)).1

pub returns-in-Stopped-clause-taken : goal.returns-in-Stopped-clause-taken
returns-in-Stopped-clause-taken g c =
    let at = c.loop-station in
    let came = ap (λ p. Ok (outcome p)) (sym c.in-Stopped.is) ∙ c.in-Ok.ensures.result in
    (stops_there _ _ _ _ _ _ _ _ _ at.invariant c.step.ensures.state c.step.ensures.buffer c.in-Stopped.length came (sym c.is_whole.ensures ∙ c.loop-station-test.true)).2

pub returns-in-End-clause-worked : goal.returns-in-End-clause-worked
returns-in-End-clause-worked g c =
    let at = c.loop-station in
    let came = ap (λ p. Ok (outcome p)) (sym c.in-End.is) ∙ c.in-Ok.ensures.result in
    (ends_there _ _ _ _ _ _ _ _ _ at.invariant c.step.ensures.state c.step.ensures.buffer came (sym c.is_whole.ensures ∙ c.loop-station-test.true)).1

pub returns-in-End-clause-taken : goal.returns-in-End-clause-taken
returns-in-End-clause-taken g c =
    let at = c.loop-station in
    let came = ap (λ p. Ok (outcome p)) (sym c.in-End.is) ∙ c.in-Ok.ensures.result in
    (ends_there _ _ _ _ _ _ _ _ _ at.invariant c.step.ensures.state c.step.ensures.buffer came (sym c.is_whole.ensures ∙ c.loop-station-test.true)).2
