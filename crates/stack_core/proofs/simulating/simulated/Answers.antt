use Rattle.std.proofs.Common.{ap, ap₂, ◌∙◌}
use Rattle.std.proofs.lemmas.Result.{IfOk-weaker}
use Rattle.peripherals.specs.Simulating.{simulation_of}
use Rattle.replies.specs.Texts.{run_text}
use Rattle.stack_core.proofs.simulating.simulated.Goals as goal

pub returns : goal.returns
returns c =
    IfOk-weaker c.run_text.result _ _
    (λ v h. h ∙ ap₂ run_text c.device.ensures (c.in_ok-report.ensures.told ∙ ap (simulation_of c.args.task.now.flash.now c.args.task.now.assumptions.now c.args.peripherals.now) c.get.ensures.value))
    c.run_text.ensures
