use Rattle.std.proofs.Common.{◌-◌, ap, sym, ◌∙◌}
use Rattle.avr_model.specs.Devices.{ramend, device_of}
use Rattle.clear_laws.specs.Aims.{may_write}
use Rattle.clear_laws.proofs.AllLaws.{any_found}
use Rattle.store_clear.proofs.Scans.{any_none, any_more}
use Rattle.store_clear.proofs.writes.may_write_stack.Goals as goal

pub loop-depth-init : goal.loop-depth-init
loop-depth-init c = any_none (λ d. may_write c.args.state.now c.args.instr.now (ramend (device_of c.args.flash.now) - d))

pub returns-then-may_write : goal.returns-then-may_write
returns-then-may_write c =
    let last = c.ramend-last.ensures ∙ ap ramend c.device.ensures in
    sym (any_found (λ d. may_write c.args.state.now c.args.instr.now (ramend (device_of c.args.flash.now) - d)) c.loop-depth.depth c.args.bound c.loop-depth-test.true
    (sym (ap (λ l. may_write c.args.state.now c.args.instr.now (l - c.loop-depth.depth)) last) ∙ (sym c.may_write.ensures ∙ c.if-may_write.true)))

pub loop-depth-preserved : goal.loop-depth-preserved
loop-depth-preserved c =
    let last = c.ramend-last.ensures ∙ ap ramend c.device.ensures in
    any_more (λ d. may_write c.args.state.now c.args.instr.now (ramend (device_of c.args.flash.now) - d)) c.loop-depth.depth c.loop-depth.invariant
    (sym (ap (λ l. may_write c.args.state.now c.args.instr.now (l - c.loop-depth.depth)) last) ∙ (sym c.may_write.ensures ∙ c.if-may_write.false))
