use Rattle.std.proofs.Common.{arith, ap, sym, ◌∙◌, ◌≡◌, ◌++◌, [], ◌∷◌}
use Rattle.avr_model.specs.declared.choice.Stop.TheVariants.{End}
use Rattle.stimulus.specs.Driving.{stop_at}
use Rattle.peripherals.specs.Due.{begun}
use Rattle.peripherals.specs.Simulating.{setting}
use Rattle.peripherals.specs.Midway.{IsPicked}
use Rattle.peripherals.proofs.Determined.{chosen_is_legal, IsReport, started, reported}
use Rattle.peripherals.proofs.Leads.{leads_on, longer, whole_stops, whole_ends, step_next}
use Rattle.peripherals.proofs.Quiet.{quiet_stays}
use Rattle.peripherals.proofs.simulating.simulation.Goals as goal

-- the run that ends at a stop
stopped : (c : goal.After-drop-progress-inside) → IsReport c.args.flash.now c.args.assumptions.now c.args.peripherals.now c.args.steps (record { steps = c.loop-step.step; depth = c.depth.result; stop = c.in-Some.stop })
stopped c =
    let d = c.args.peripherals.now in
    let chosen = c.choose-choice.ensures.chosen c.args.flash.now c.args.assumptions.now in
    let start = started c.args.flash.now d c.start-machine.result c.device.result c.fill.result c.start-machine.ensures.start c.start-machine.ensures.reset c.device.ensures c.fill.ensures in
    let whole = whole_stops (IsPicked d) d c.args.flash.now c.args.assumptions.now c.args.steps (begun d) c.start-machine.result c.loop-step.invariant.led.0 c.loop-step.progress c.loop-step.machine c.choose-choice.result c.choose-choice.new.progress c.step-answer.new.self c.loop-step.step c.in-Some.stop
    c.loop-step.invariant.led.1 c.loop-step.invariant.led.2 c.loop-step-test.true c.choose-choice.ensures.bytes chosen
    (ap stop_at (sym c.step-answer.ensures.answer) ∙ sym c.stop_at.ensures ∙ c.in-Some.is) c.step-answer.ensures.state in
    reported c.depth_is_kept.ensures d c.args.flash.now c.args.assumptions.now c.args.steps c.start-machine.result _ c.step-answer.new.self c.loop-step.step c.depth.result c.in-Some.stop start whole c.depth.ensures

pub returns-in-Some-clause-told : goal.returns-in-Some-clause-told
returns-in-Some-clause-told c = (stopped c).told

pub returns-in-Some-clause-bounded : goal.returns-in-Some-clause-bounded
returns-in-Some-clause-bounded c = (stopped c).bounded

pub loop-step-preserved : goal.loop-step-preserved
loop-step-preserved c =
    let d = c.args.peripherals.now in
    let chosen = c.choose-choice.ensures.chosen c.args.flash.now c.args.assumptions.now in
    let cs = c.loop-step.invariant.led.0 in
    record {
      known = c.choose-choice.ensures.known;
      at = step_next (setting (IsPicked d) d c.args.flash.now c.args.assumptions.now) c.loop-step.progress c.loop-step.machine.state c.choose-choice.result c.choose-choice.new.progress c.loop-step.step chosen c.loop-step.invariant.at;
      quiet = quiet_stays c.devices_are_alike.ensures.stay c.args.flash.now c.args.assumptions.now d c.loop-step.machine c.choose-choice.result c.step-answer.new.self c.choose-choice.new.quiet.masks c.choose-choice.new.progress.taken c.choose-choice.new.quiet.until
          c.step-answer.ensures.state c.choose-choice.ensures.quiet;
      led = (
        cs ++ c.choose-choice.result ∷ [],
        leads_on (IsPicked d) d c.args.flash.now c.args.assumptions.now c.args.steps (begun d) c.start-machine.result cs c.loop-step.progress c.loop-step.machine c.choose-choice.result c.choose-choice.new.progress c.step-answer.new.self
            c.loop-step.invariant.led.1 (omega (arith, c.loop-step.invariant.led.2, c.loop-step-test.true)) c.choose-choice.ensures.bytes chosen
            (chosen_is_legal c.args.flash.now c.args.assumptions.now d c.loop-step.progress c.loop-step.machine.state c.choose-choice.result c.choose-choice.new.progress chosen)
            (ap stop_at (sym c.step-answer.ensures.answer) ∙ sym c.stop_at.ensures ∙ c.in_default.is) c.step-answer.ensures.state,
        longer cs c.choose-choice.result c.loop-step.step c.loop-step.invariant.led.2,
      );
    }

-- the run that ends after all steps
ended : (c : goal.After-drop-progress-inside-2) → IsReport c.args.flash.now c.args.assumptions.now c.args.peripherals.now c.args.steps (record { steps = c.args.steps; depth = c.depth-2.result; stop = End })
ended c =
    let d = c.args.peripherals.now in
    let end : c.loop-step.step ≡ c.args.steps = omega (arith, c.loop-step-test.false, c.loop-step.auto.step-end) in
    let start = started c.args.flash.now d c.start-machine.result c.device.result c.fill.result c.start-machine.ensures.start c.start-machine.ensures.reset c.device.ensures c.fill.ensures in
    let whole = whole_ends (IsPicked d) d c.args.flash.now c.args.assumptions.now c.args.steps (begun d) c.start-machine.result c.loop-step.invariant.led.0 c.loop-step.progress c.loop-step.machine c.loop-step.invariant.led.1 (c.loop-step.invariant.led.2 ∙ end) in
    reported c.depth_is_kept.ensures d c.args.flash.now c.args.assumptions.now c.args.steps c.start-machine.result _ c.loop-step.machine c.args.steps c.depth-2.result End start whole c.depth-2.ensures

pub returns-clause-told : goal.returns-clause-told
returns-clause-told c = (ended c).told

pub returns-clause-bounded : goal.returns-clause-bounded
returns-clause-bounded c = (ended c).bounded
