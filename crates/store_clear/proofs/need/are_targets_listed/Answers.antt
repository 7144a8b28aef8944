use Rattle.std.proofs.Common.{sym, ap, ◌∙◌, ◌+◌, ◌<◌, arith}
use Rattle.avr_model.specs.Devices.{eind_most, device_of}
use Rattle.clear_laws.specs.Clear.{is_bank_listed}
use Rattle.store_clear.proofs.Scans.{all_none, all_more, all_fails}
use Rattle.store_clear.proofs.need.are_targets_listed.Goals as goal

pub loop-third-init : goal.loop-third-init
loop-third-init c = all_none (is_bank_listed (device_of c.args.flash.now) c.args.state.now c.args.bank c.args.listed.now)

pub returns-then-not-is_bank_listed : goal.returns-then-not-is_bank_listed
returns-then-not-is_bank_listed c =
    let lt : c.loop-third.third < eind_most (device_of c.args.flash.now) + 1 = omega (arith, c.loop-third-test.true, c.eind_most-third-end.ensures.exact, ap eind_most c.device.ensures) in
    sym (all_fails (is_bank_listed (device_of c.args.flash.now) c.args.state.now c.args.bank c.args.listed.now) c.loop-third.third (eind_most (device_of c.args.flash.now) + 1) lt (sym c.is_bank_listed.ensures ∙ c.if-not-is_bank_listed.true))

pub loop-third-preserved : goal.loop-third-preserved
loop-third-preserved c =
    all_more (is_bank_listed (device_of c.args.flash.now) c.args.state.now c.args.bank c.args.listed.now) c.loop-third.third c.loop-third.invariant (sym c.is_bank_listed.ensures ∙ c.if-not-is_bank_listed.false)
