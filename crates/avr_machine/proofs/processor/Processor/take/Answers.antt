use Rattle.std.proofs.Common.{◌∙◌, ap, false}
use Rattle.avr_model.specs.declared.device.Device.{Device}
use Rattle.avr_model.specs.Vectors.{with_enable}
use Rattle.avr_machine.proofs.Unheld.{turned_small}
use Rattle.avr_machine.proofs.processor.Processor.take.Goals as goal

pub invariant_of-self : goal.invariant_of-self
invariant_of-self c = (
  c.self-2.invariant.0,
  c.self-2.invariant.1,
  c.self-2.invariant.2,
  c.self-2.invariant.3,
  turned_small c.self-2.inside.device c.with-self-inside.result c.self-2.inside.enables c.args.vector false
      (c.with-self-inside.ensures ∙ ap (λ (d : Device). with_enable d c.self-2.inside.enables c.args.vector false) c.get-then-clears.ensures),
)
