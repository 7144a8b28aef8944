use Rattle.std.proofs.Common.{◌∙◌, ap}
use Rattle.avr_model.specs.State.{State}
use Rattle.avr_machine.proofs.Banks.{stepped}
use Rattle.avr_machine.proofs.processor.Processor.stepped_bank.Goals as goal

pub returns-then-pair-eq65535 : goal.returns-then-pair-eq65535
returns-then-pair-eq65535 c =
    stepped c.args.self.now c.get.result c.register-bank.result c.pair.result c.kept_of.result (c.register-bank.type_inv) c.register-bank.ensures
    (c.get.ensures ∙ ap (λ (m : State). m.device) c.self.view_is) c.pair.ensures c.if-pair-eq65535.true c.kept_of.ensures
