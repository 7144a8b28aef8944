use Rattle.std.proofs.Common.{sym, ap, ◌∙◌, List}
use Rattle.avr_model.specs.declared.choice.Choice.{Choice}
use Rattle.avr_model.specs.Run.{depth_of}
use Rattle.guided_trials.specs.Trials.{fill_of, initial}
use Rattle.stimulus.proofs.AllLaws.{depth_from_reset}
use Rattle.guided_trials.proofs.Starts.{start_as, started}
use Rattle.guided_trials.proofs.trial.depth_of_trial.Goals as goal

pub returns : goal.returns
returns g c =
    let trace = c.run.ensures.driven.0 in
    let t = c.run.ensures.driven.1 in
    let start =
    start_as c.args.firmware.now.flash.now c.args.guide.now c.args.t c.device.result c.fill_of-fill.result c.start-machine.result c.start-machine.ensures.start c.device.ensures c.fill_of-fill.ensures in
    let choices = started _ c.args.firmware.now.flash.now c.args.firmware.now.assumptions.now c.args.guide.now c.args.t c.args.steps _ _ _ trace.choices _ c.requires.guided c.new-driver.ensures.closure start t.drives in
    c.depth.ensures
    ∙ sym t.depth
    ∙ depth_from_reset c.depth_is_kept.ensures c.args.firmware.now.flash.now c.args.firmware.now.assumptions.now (fill_of c.args.guide.now c.args.t) c.start-machine.result trace.choices _ trace.depth start t.run t.machine t.depth
    ∙ ap (λ (cs : List Choice). depth_of c.args.firmware.now.flash.now c.args.firmware.now.assumptions.now cs (initial c.args.firmware.now.flash.now c.args.guide.now c.args.t)) choices
