use Rattle.std.proofs.Common.{◌≡◌, ◌∙◌, ◌+◌, sym, None}
use Rattle.avr_model.proofs.AllLaws.{devices_are_alike}
use Rattle.avr_model.specs.Effects.{storing, delay_of_out}
use Rattle.avr_model.specs.State.{register}
use Rattle.avr_model.specs.Step.{state_after}
use Rattle.avr_machine.specs.Quiet.{moves_at, store_answer}
use Rattle.avr_machine.proofs.processor.Processor.output.Goals as goal

pub returns-clause-state : goal.returns-clause-state
returns-clause-state c =
    let m = c.args.self.now in
    let address = c.port-address.ensures in
    let byte : c.register-byte.result ≡ register m c.args.r = c.register-byte.ensures in
    let next = c.further-next.ensures.value ∙ sym (devices_are_alike.twice m.device (m.pc + 1)) in
    let delay = c.turns_on-delay.ensures ∙ (λ i. delay_of_out m (address i) (byte i)) in
    c.store_step.ensures.state ∙ (λ i. state_after m (store_answer m None (moves_at c.args.firmware.now.flash.now c.args.firmware.now.assumptions.now (record { address = address i; byte = byte i })) (record (storing m (address i) (byte i)) { pc = next i; delay = delay i })))
