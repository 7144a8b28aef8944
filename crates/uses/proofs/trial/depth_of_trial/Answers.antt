use Rattle.std.proofs.Common.{rules}
use Rattle.uses.proofs.Bounds.{steady, trial_bounded}
use Rattle.uses.proofs.trial.depth_of_trial.Goals as goal

pub new-driver-requires : goal.new-driver-requires
new-driver-requires c = steady _ (λ f a. tt) (λ f a r next called. search rules) _

pub returns : goal.returns
returns c =
    let trace = c.run.ensures.driven.1 in
    trial_bounded c.depth_is_kept.ensures c.args.flash.now c.args.assumptions.now c.start-machine.result _ c.run.ensures.driven.0.choices c.device.result c.depth.result
    c.start-machine.ensures.start c.start-machine.ensures.reset c.device.ensures trace.run trace.machine c.depth.ensures
