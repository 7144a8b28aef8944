use Rattle.std.proofs.Common.{arith, ap, sym, subst, ◌∙◌, ◌≡◌, length, List}
use Rattle.avr_model.specs.declared.choice.Choice.{Choice}
use Rattle.stimulus.specs.Driving.{stop_at}
use Rattle.peripherals.specs.Hooks.{ByHooks}
use Rattle.peripherals.specs.Due.{begun}
use Rattle.peripherals.specs.Traces.{Leads}
use Rattle.peripherals.specs.Midway.{setting_of}
use Rattle.peripherals.proofs.Leads.{leads_on, longer, trace_stops, trace_ends, step_next}
use Rattle.peripherals.proofs.walk.simulate.Goals as goal

pub returns-in-Some-clause-ok : goal.returns-in-Some-clause-ok
returns-in-Some-clause-ok g c =
    trace_stops (ByHooks g.F.Fn g.G.Fn c.args.wiring.now.timers.now c.args.wiring.now.receivers.now) c.args.wiring.now.peripherals.now c.args.wiring.now.flash.now c.args.wiring.now.assumptions.now c.args.steps c.args.machine.now
    c.loop-step.choices c.push.new.self c.loop-step.progress c.loop-step.machine c.choose-choice.result c.choose-choice.new.progress c.step-answer.new.self c.depth.result c.in-Some.stop
    c.loop-step.invariant.led (omega (arith, c.loop-step.invariant.count, c.loop-step-test.true)) c.in_ok-push.ensures.ok c.choose-choice.ensures.bytes c.choose-choice.ensures.chosen
    (ap stop_at (sym c.step-answer.ensures.answer) ∙ sym c.stop_at.ensures ∙ c.in-Some.is) c.step-answer.ensures.state c.depth.ensures

pub loop-step-preserved : goal.loop-step-preserved
loop-step-preserved g c =
    let x = setting_of g.F.Fn g.G.Fn c.args.wiring.now in
    let led = leads_on (ByHooks g.F.Fn g.G.Fn c.args.wiring.now.timers.now c.args.wiring.now.receivers.now) c.args.wiring.now.peripherals.now c.args.wiring.now.flash.now c.args.wiring.now.assumptions.now c.args.steps (begun c.args.wiring.now.peripherals.now) c.args.machine.now
    c.loop-step.choices c.loop-step.progress c.loop-step.machine c.choose-choice.result c.choose-choice.new.progress c.step-answer.new.self c.loop-step.invariant.led (omega (arith, c.loop-step.invariant.count, c.loop-step-test.true))
    c.choose-choice.ensures.bytes c.choose-choice.ensures.chosen (c.choose-choice.ensures.legal _ _)
    (ap stop_at (sym c.step-answer.ensures.answer) ∙ sym c.stop_at.ensures ∙ c.in_default.is) c.step-answer.ensures.state in
    record {
      known = c.choose-choice.ensures.known;
      at = step_next x c.loop-step.progress c.loop-step.machine.state c.choose-choice.result c.choose-choice.new.progress c.loop-step.step c.choose-choice.ensures.chosen c.loop-step.invariant.at;
      led = subst (λ (cs : List Choice). Leads x c.args.steps (begun c.args.wiring.now.peripherals.now) c.args.machine.now cs c.choose-choice.new.progress c.step-answer.new.self) (sym c.in_ok-push.ensures.ok) led;
      count = ap (λ (cs : List Choice). length cs) c.in_ok-push.ensures.ok ∙ longer c.loop-step.choices c.choose-choice.result c.loop-step.step c.loop-step.invariant.count;
    }

pub returns-clause-ok : goal.returns-clause-ok
returns-clause-ok g c =
    let end : c.loop-step.step ≡ c.args.steps = omega (arith, c.loop-step-test.false, c.loop-step.auto.step-end) in
    trace_ends (ByHooks g.F.Fn g.G.Fn c.args.wiring.now.timers.now c.args.wiring.now.receivers.now) c.args.wiring.now.peripherals.now c.args.wiring.now.flash.now c.args.wiring.now.assumptions.now c.args.steps c.args.machine.now
    c.loop-step.choices c.loop-step.progress c.loop-step.machine c.depth-2.result c.loop-step.invariant.led (c.loop-step.invariant.count ∙ end) c.depth-2.ensures
