use Rattle.std.proofs.Common.{arith, inl, inr, refl, ap, sym, ◌∙◌, ◌≡◌, ◌+◌, ◌-◌, ◌<◌, ◌≤◌, ◌++◌, length, List, [], ◌∷◌}
use Rattle.std.specs.Fn.{CalledAt}
use Rattle.avr_model.specs.declared.choice.Choice.{Choice}
use Rattle.stimulus.specs.Driving.{Advances, stop_at}
use Rattle.stimulus.proofs.Runs.{begins_on, trace_stops, trace_ends, longer, ended}
use Rattle.stimulus.proofs.driver.Driver.run.Goals as goal

pub loop-preserved : goal.loop-preserved
loop-preserved g c =
    let before = c.loop.invariant.1 in
    let room : length before.0 < c.args.until.steps = omega (arith, before.2) in
    let low : c.loop.machine.depth < c.args.until.target = omega arith in
    let now : List Choice = before.0 ++ c.ask-choice.result ∷ [] in
    let step : Advances (CalledAt g.F.FnMut) c.args.firmware.now.flash.now c.args.firmware.now.assumptions.now c.loop.self c.loop.machine before.0 c.step.result c.ask-choice.new.self c.step.new.self now =
    record {
      choice = c.ask-choice.result;
      bytes = c.ask-choice.ensures.bytes;
      asked = c.ask-choice.ensures.asked;
      pushed = refl;
      answered = c.step.ensures.answer;
      legal = c.ask-choice.ensures.legal c.args.firmware.now.flash.now c.args.firmware.now.assumptions.now;
      state = c.step.ensures.state;
    } in (
      c.ask-choice.ensures.steady,
      (
        now,
        begins_on (CalledAt g.F.FnMut) c.args.firmware.now.flash.now c.args.firmware.now.assumptions.now c.args.until.target _ _ _ _ _ _ _ _ _ _ before.1 room low step (ap stop_at c.in-Done.is),
        longer _ _ _ step.pushed ∙ ap (λ n. n + 1) before.2,
      ),
    )

pub returns-then-depth-until-clause-driven : goal.returns-then-depth-until-clause-driven
returns-then-depth-until-clause-driven g c =
    let high : c.args.until.target ≤ c.loop.machine.depth = omega arith in
    (_, trace_ends (CalledAt g.F.FnMut) c.args.firmware.now.flash.now c.args.firmware.now.assumptions.now c.args.until.target _ _ _ _ _ _ c.loop.invariant.1.1 (inl high))

pub returns-in_default-clause-driven : goal.returns-in_default-clause-driven
returns-in_default-clause-driven g c =
    let before = c.loop.invariant.1 in
    let room : length before.0 < c.args.until.steps = omega (arith, before.2) in
    let low : c.loop.machine.depth < c.args.until.target = omega arith in
    let now : List Choice = before.0 ++ c.ask-choice.result ∷ [] in
    let step : Advances (CalledAt g.F.FnMut) c.args.firmware.now.flash.now c.args.firmware.now.assumptions.now c.loop.self c.loop.machine before.0 c.step.result c.ask-choice.new.self c.step.new.self now =
    record {
      choice = c.ask-choice.result;
      bytes = c.ask-choice.ensures.bytes;
      asked = c.ask-choice.ensures.asked;
      pushed = refl;
      answered = c.step.ensures.answer;
      legal = c.ask-choice.ensures.legal c.args.firmware.now.flash.now c.args.firmware.now.assumptions.now;
      state = c.step.ensures.state;
    } in
    let stop = ended c.step.result c.in_default.not-Done (λ e. c.ask-choice.ensures.legal c.args.firmware.now.flash.now c.args.firmware.now.assumptions.now (sym c.step.ensures.answer ∙ e)) in
    (_, trace_stops (CalledAt g.F.FnMut) c.args.firmware.now.flash.now c.args.firmware.now.assumptions.now c.args.until.target _ _ _ _ _ _ _ _ _ _ stop.0 before.1 room low step stop.1)

pub returns-clause-driven : goal.returns-clause-driven
returns-clause-driven g c =
    let over : c.args.until.steps - length c.loop.invariant.1.0 ≡ 0 = omega (arith, c.loop.invariant.1.2) in
    (_, trace_ends (CalledAt g.F.FnMut) c.args.firmware.now.flash.now c.args.firmware.now.assumptions.now c.args.until.target _ _ _ _ _ _ c.loop.invariant.1.1 (inr over))
