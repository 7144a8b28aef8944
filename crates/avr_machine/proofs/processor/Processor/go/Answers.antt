use Rattle.std.proofs.Common.{◌≡◌, ◌∙◌, sym, ap, true, false, Option, Some}
use Rattle.std.specs.Prelude.{if◌then◌else◌}
use Rattle.avr_model.specs.declared.instruction.Instr.{Instr}
use Rattle.avr_model.specs.Sites.{instruction_at}
use Rattle.avr_model.specs.State.{State}
use Rattle.avr_model.specs.Effects.{effect_of}
use Rattle.avr_model.specs.Step.{after, go, result_of, state_after}
use Rattle.avr_machine.specs.Quiet.{is_quiet, is_still}
use Rattle.avr_machine.proofs.Quieting.{quiet_result, quiet_state}
use Rattle.avr_machine.proofs.processor.Processor.go.Goals as goal

there : (c : goal.Then-execute_quiet) → Some c.in-Some.instr ≡ instruction_at c.args.firmware.now.flash.now c.args.self.now.pc
there c = sym c.in-Some.is ∙ c.instruction.ensures ∙ ap (λ (m : State). instruction_at c.args.firmware.now.flash.now m.pc) c.self.view_is

quiet : (c : goal.Then-execute_quiet) → is_quiet c.in-Some.instr ≡ true
quiet c = sym c.execute_quiet.ensures.kind ∙ c.if-execute_quiet.true

pub returns-then-execute_quiet-clause-answer : goal.returns-then-execute_quiet-clause-answer
returns-then-execute_quiet-clause-answer c =
    let m = c.args.self.now in
    quiet_result c.args.firmware.now.flash.now c.args.firmware.now.assumptions.now m c.in-Some.instr c.args.first c.args.second (quiet c)
    ∙ ap (λ (o : Option Instr). result_of (go c.args.firmware.now.flash.now c.args.firmware.now.assumptions.now m o c.args.first c.args.second)) (there c)

pub returns-then-execute_quiet-clause-state : goal.returns-then-execute_quiet-clause-state
returns-then-execute_quiet-clause-state c =
    let m = c.args.self.now in
    c.execute_quiet.ensures.state
    ∙ ap (λ t. if t then after m false (effect_of c.args.firmware.now.flash.now (is_still c.args.firmware.now.flash.now c.args.firmware.now.assumptions.now) m c.in-Some.instr c.args.first c.args.second) else m) (quiet c)
    ∙ quiet_state c.args.firmware.now.flash.now c.args.firmware.now.assumptions.now m c.in-Some.instr c.args.first c.args.second (quiet c)
    ∙ ap (λ (o : Option Instr). state_after m (go c.args.firmware.now.flash.now c.args.firmware.now.assumptions.now m o c.args.first c.args.second)) (there c)
