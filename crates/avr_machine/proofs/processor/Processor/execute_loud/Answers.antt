use Rattle.std.proofs.Common.{◌∙◌, refl, sym, ap, ap₂}
use Rattle.avr_model.specs.declared.instruction.Instr.TheVariants as i
use Rattle.avr_model.specs.State.{State}
use Rattle.avr_model.specs.Text.{far}
use Rattle.avr_model.specs.Step.{result_of, state_after}
use Rattle.avr_machine.specs.Quiet.{protected_at}
use Rattle.avr_machine.proofs.Loud.{std_row, sts_row, st_answer, out_answer, cbi_answer, sbi_answer, push_row, call_answer, rcall_answer, icall_answer, ijmp_row, eicall_answer, eijmp_row, none_left}
use Rattle.avr_machine.proofs.processor.Processor.execute_loud.Goals as goal

pub returns-in-Std-clause-answer : goal.returns-in-Std-clause-answer
returns-in-Std-clause-answer c first second loud = c.store_step.ensures.answer ∙ ap result_of (std_row c.args.firmware.now.flash.now c.args.firmware.now.assumptions.now c.args.self.now c.args.instr.now first second _ _ _ _ _ _ _ (c.in-Std.is ∙ ap₂ (λ n r. i.Std c.in-Std.base n r) (sym c.get.ensures.value) (sym c.get-in-Std.ensures.value)) c.displaced.ensures c.register.ensures c.further.ensures.value (c.protected_at-protected.ensures ∙ ap (λ (m : State). protected_at c.args.firmware.now.flash.now c.args.firmware.now.assumptions.now m.pc (record { address = c.displaced.result; byte = c.register.result })) c.self.view_is))

pub returns-in-Std-clause-state : goal.returns-in-Std-clause-state
returns-in-Std-clause-state c first second loud = c.store_step.ensures.state ∙ ap (state_after c.args.self.now) (std_row c.args.firmware.now.flash.now c.args.firmware.now.assumptions.now c.args.self.now c.args.instr.now first second _ _ _ _ _ _ _ (c.in-Std.is ∙ ap₂ (λ n r. i.Std c.in-Std.base n r) (sym c.get.ensures.value) (sym c.get-in-Std.ensures.value)) c.displaced.ensures c.register.ensures c.further.ensures.value (c.protected_at-protected.ensures ∙ ap (λ (m : State). protected_at c.args.firmware.now.flash.now c.args.firmware.now.assumptions.now m.pc (record { address = c.displaced.result; byte = c.register.result })) c.self.view_is))

pub returns-in-Sts-clause-answer : goal.returns-in-Sts-clause-answer
returns-in-Sts-clause-answer c first second loud = c.store_step-in-Sts.ensures.answer ∙ ap result_of (sts_row c.args.firmware.now.flash.now c.args.firmware.now.assumptions.now c.args.self.now c.args.instr.now first second _ _ _ _ (c.in-Sts.is ∙ ap (λ r. i.Sts c.in-Sts.k r) (sym c.get-in-Sts.ensures.value)) c.register-in-Sts.ensures c.further-in-Sts.ensures.value)

pub returns-in-Sts-clause-state : goal.returns-in-Sts-clause-state
returns-in-Sts-clause-state c first second loud = c.store_step-in-Sts.ensures.state ∙ ap (state_after c.args.self.now) (sts_row c.args.firmware.now.flash.now c.args.firmware.now.assumptions.now c.args.self.now c.args.instr.now first second _ _ _ _ (c.in-Sts.is ∙ ap (λ r. i.Sts c.in-Sts.k r) (sym c.get-in-Sts.ensures.value)) c.register-in-Sts.ensures c.further-in-Sts.ensures.value)

pub returns-in-St-clause-answer : goal.returns-in-St-clause-answer
returns-in-St-clause-answer c first second loud = c.store_through.ensures.answer ∙ ap result_of (st_answer c.args.firmware.now.flash.now c.args.firmware.now.assumptions.now c.args.self.now c.args.instr.now first second _ _ (c.in-St.is ∙ ap (λ r. i.St c.in-St.pointer r) (sym c.get-in-St.ensures.value)))

pub returns-in-St-clause-state : goal.returns-in-St-clause-state
returns-in-St-clause-state c first second loud = c.store_through.ensures.state ∙ ap (state_after c.args.self.now) (st_answer c.args.firmware.now.flash.now c.args.firmware.now.assumptions.now c.args.self.now c.args.instr.now first second _ _ (c.in-St.is ∙ ap (λ r. i.St c.in-St.pointer r) (sym c.get-in-St.ensures.value)))

pub returns-in-Out-clause-answer : goal.returns-in-Out-clause-answer
returns-in-Out-clause-answer c first second loud = c.output.ensures.answer ∙ ap result_of (out_answer c.args.firmware.now.flash.now c.args.firmware.now.assumptions.now c.args.self.now c.args.instr.now first second _ _ (c.in-Out.is ∙ ap₂ (λ a b. i.Out a b) (sym c.get-in-Out.ensures.value) (sym c.get-in-Out-2.ensures.value)))

pub returns-in-Out-clause-state : goal.returns-in-Out-clause-state
returns-in-Out-clause-state c first second loud = c.output.ensures.state ∙ ap (state_after c.args.self.now) (out_answer c.args.firmware.now.flash.now c.args.firmware.now.assumptions.now c.args.self.now c.args.instr.now first second _ _ (c.in-Out.is ∙ ap₂ (λ a b. i.Out a b) (sym c.get-in-Out.ensures.value) (sym c.get-in-Out-2.ensures.value)))

pub returns-in-Cbi-clause-answer : goal.returns-in-Cbi-clause-answer
returns-in-Cbi-clause-answer c first second loud = c.change_bit.ensures.answer ∙ ap result_of (cbi_answer c.args.firmware.now.flash.now c.args.firmware.now.assumptions.now c.args.self.now c.args.instr.now first second _ _ (c.in-Cbi.is ∙ ap₂ (λ a b. i.Cbi a b) (sym c.get-in-Cbi.ensures.value) (sym c.get-in-Cbi-2.ensures.value)))

pub returns-in-Cbi-clause-state : goal.returns-in-Cbi-clause-state
returns-in-Cbi-clause-state c first second loud = c.change_bit.ensures.state ∙ ap (state_after c.args.self.now) (cbi_answer c.args.firmware.now.flash.now c.args.firmware.now.assumptions.now c.args.self.now c.args.instr.now first second _ _ (c.in-Cbi.is ∙ ap₂ (λ a b. i.Cbi a b) (sym c.get-in-Cbi.ensures.value) (sym c.get-in-Cbi-2.ensures.value)))

pub returns-in-Sbi-clause-answer : goal.returns-in-Sbi-clause-answer
returns-in-Sbi-clause-answer c first second loud = c.change_bit-in-Sbi.ensures.answer ∙ ap result_of (sbi_answer c.args.firmware.now.flash.now c.args.firmware.now.assumptions.now c.args.self.now c.args.instr.now first second _ _ (c.in-Sbi.is ∙ ap₂ (λ a b. i.Sbi a b) (sym c.get-in-Sbi.ensures.value) (sym c.get-in-Sbi-2.ensures.value)))

pub returns-in-Sbi-clause-state : goal.returns-in-Sbi-clause-state
returns-in-Sbi-clause-state c first second loud = c.change_bit-in-Sbi.ensures.state ∙ ap (state_after c.args.self.now) (sbi_answer c.args.firmware.now.flash.now c.args.firmware.now.assumptions.now c.args.self.now c.args.instr.now first second _ _ (c.in-Sbi.is ∙ ap₂ (λ a b. i.Sbi a b) (sym c.get-in-Sbi.ensures.value) (sym c.get-in-Sbi-2.ensures.value)))

pub returns-in-Push-clause-answer : goal.returns-in-Push-clause-answer
returns-in-Push-clause-answer c first second loud = c.push.ensures.answer ∙ ap result_of (push_row c.args.firmware.now.flash.now c.args.firmware.now.assumptions.now c.args.self.now c.args.instr.now first second _ (c.in-Push.is ∙ ap (λ r. i.Push r) (sym c.get-in-Push.ensures.value)))

pub returns-in-Push-clause-state : goal.returns-in-Push-clause-state
returns-in-Push-clause-state c first second loud = c.push.ensures.state ∙ ap (state_after c.args.self.now) (push_row c.args.firmware.now.flash.now c.args.firmware.now.assumptions.now c.args.self.now c.args.instr.now first second _ (c.in-Push.is ∙ ap (λ r. i.Push r) (sym c.get-in-Push.ensures.value)))

pub returns-in-Call-clause-answer : goal.returns-in-Call-clause-answer
returns-in-Call-clause-answer c first second loud = c.call.ensures.answer ∙ ap result_of (call_answer c.args.firmware.now.flash.now c.args.firmware.now.assumptions.now c.args.self.now c.args.instr.now first second _ _ _ c.in-Call.is c.further-in-Call.ensures.value refl)

pub returns-in-Call-clause-state : goal.returns-in-Call-clause-state
returns-in-Call-clause-state c first second loud = c.call.ensures.state ∙ ap (state_after c.args.self.now) (call_answer c.args.firmware.now.flash.now c.args.firmware.now.assumptions.now c.args.self.now c.args.instr.now first second _ _ _ c.in-Call.is c.further-in-Call.ensures.value refl)

pub returns-in-Rcall-clause-answer : goal.returns-in-Rcall-clause-answer
returns-in-Rcall-clause-answer c first second loud =
    c.call-in-Rcall.ensures.answer ∙ ap result_of (rcall_answer c.args.firmware.now.flash.now c.args.firmware.now.assumptions.now c.args.self.now c.args.instr.now first second _ _ _ (c.in-Rcall.is ∙ ap (λ k. i.Rcall k) (sym c.get-in-Rcall.ensures.value)) c.further-in-Rcall.ensures.value (c.far-target.ensures ∙ ap (λ (m : State). far m.pc c.get-in-Rcall.result) c.self-in-Rcall.view_is))

pub returns-in-Rcall-clause-state : goal.returns-in-Rcall-clause-state
returns-in-Rcall-clause-state c first second loud =
    c.call-in-Rcall.ensures.state ∙ ap (state_after c.args.self.now) (rcall_answer c.args.firmware.now.flash.now c.args.firmware.now.assumptions.now c.args.self.now c.args.instr.now first second _ _ _ (c.in-Rcall.is ∙ ap (λ k. i.Rcall k) (sym c.get-in-Rcall.ensures.value)) c.further-in-Rcall.ensures.value (c.far-target.ensures ∙ ap (λ (m : State). far m.pc c.get-in-Rcall.result) c.self-in-Rcall.view_is))

pub returns-in-Icall-clause-answer : goal.returns-in-Icall-clause-answer
returns-in-Icall-clause-answer c first second loud = c.call-in-Icall.ensures.answer ∙ ap result_of (icall_answer c.args.firmware.now.flash.now c.args.firmware.now.assumptions.now c.args.self.now c.args.instr.now first second _ _ _ c.in-Icall.is c.computed-target.ensures.unlisted c.further-in-Icall.ensures.value c.computed-target.ensures.target)

pub returns-in-Icall-clause-state : goal.returns-in-Icall-clause-state
returns-in-Icall-clause-state c first second loud = c.call-in-Icall.ensures.state ∙ ap (state_after c.args.self.now) (icall_answer c.args.firmware.now.flash.now c.args.firmware.now.assumptions.now c.args.self.now c.args.instr.now first second _ _ _ c.in-Icall.is c.computed-target.ensures.unlisted c.further-in-Icall.ensures.value c.computed-target.ensures.target)

pub returns-in-Ijmp-clause-answer : goal.returns-in-Ijmp-clause-answer
returns-in-Ijmp-clause-answer c first second loud = c.jump_computed.ensures.answer ∙ ap result_of (ijmp_row c.args.firmware.now.flash.now c.args.firmware.now.assumptions.now c.args.self.now c.args.instr.now first second c.in-Ijmp.is)

pub returns-in-Ijmp-clause-state : goal.returns-in-Ijmp-clause-state
returns-in-Ijmp-clause-state c first second loud = c.jump_computed.ensures.state ∙ ap (state_after c.args.self.now) (ijmp_row c.args.firmware.now.flash.now c.args.firmware.now.assumptions.now c.args.self.now c.args.instr.now first second c.in-Ijmp.is)

pub returns-in-Eicall-clause-answer : goal.returns-in-Eicall-clause-answer
returns-in-Eicall-clause-answer c first second loud = c.call-in-Eicall.ensures.answer ∙ ap result_of (eicall_answer c.args.firmware.now.flash.now c.args.firmware.now.assumptions.now c.args.self.now c.args.instr.now first second _ _ _ c.in-Eicall.is c.computed-target-in-Eicall.ensures.unlisted c.further-in-Eicall.ensures.value c.computed-target-in-Eicall.ensures.target)

pub returns-in-Eicall-clause-state : goal.returns-in-Eicall-clause-state
returns-in-Eicall-clause-state c first second loud = c.call-in-Eicall.ensures.state ∙ ap (state_after c.args.self.now) (eicall_answer c.args.firmware.now.flash.now c.args.firmware.now.assumptions.now c.args.self.now c.args.instr.now first second _ _ _ c.in-Eicall.is c.computed-target-in-Eicall.ensures.unlisted c.further-in-Eicall.ensures.value c.computed-target-in-Eicall.ensures.target)

pub returns-in-Eijmp-clause-answer : goal.returns-in-Eijmp-clause-answer
returns-in-Eijmp-clause-answer c first second loud = c.jump_computed-in-Eijmp.ensures.answer ∙ ap result_of (eijmp_row c.args.firmware.now.flash.now c.args.firmware.now.assumptions.now c.args.self.now c.args.instr.now first second c.in-Eijmp.is)

pub returns-in-Eijmp-clause-state : goal.returns-in-Eijmp-clause-state
returns-in-Eijmp-clause-state c first second loud = c.jump_computed-in-Eijmp.ensures.state ∙ ap (state_after c.args.self.now) (eijmp_row c.args.firmware.now.flash.now c.args.firmware.now.assumptions.now c.args.self.now c.args.instr.now first second c.in-Eijmp.is)

pub returns-in_default-clause-answer : goal.returns-in_default-clause-answer
returns-in_default-clause-answer c first second loud = absurd (none_left c.args.instr.now loud c.in_default.not-Std c.in_default.not-Sts c.in_default.not-St c.in_default.not-Out c.in_default.not-Cbi c.in_default.not-Sbi c.in_default.not-Push c.in_default.not-Call c.in_default.not-Rcall c.in_default.not-Icall c.in_default.not-Ijmp c.in_default.not-Eicall c.in_default.not-Eijmp)

pub returns-in_default-clause-state : goal.returns-in_default-clause-state
returns-in_default-clause-state c first second loud = absurd (none_left c.args.instr.now loud c.in_default.not-Std c.in_default.not-Sts c.in_default.not-St c.in_default.not-Out c.in_default.not-Cbi c.in_default.not-Sbi c.in_default.not-Push c.in_default.not-Call c.in_default.not-Rcall c.in_default.not-Icall c.in_default.not-Ijmp c.in_default.not-Eicall c.in_default.not-Eijmp)
