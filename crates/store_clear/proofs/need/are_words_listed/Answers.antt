use Rattle.std.proofs.Common.{sym, ◌∙◌}
use Rattle.avr_model.specs.Devices.{device_of}
use Rattle.clear_laws.specs.Clear.{is_target_listed}
use Rattle.store_clear.proofs.Scans.{all_none, all_more, all_fails}
use Rattle.store_clear.proofs.need.are_words_listed.Goals as goal

pub loop-z-init : goal.loop-z-init
loop-z-init c = all_none (is_target_listed (device_of c.args.flash.now) c.args.state.now c.args.listed.now c.args.third)

pub returns-then-not-is_target_listed : goal.returns-then-not-is_target_listed
returns-then-not-is_target_listed c =
    sym (all_fails (is_target_listed (device_of c.args.flash.now) c.args.state.now c.args.listed.now c.args.third) c.loop-z.z 65536 c.loop-z-test.true (sym c.is_target_listed.ensures ∙ c.if-not-is_target_listed.true))

pub loop-z-preserved : goal.loop-z-preserved
loop-z-preserved c =
    all_more (is_target_listed (device_of c.args.flash.now) c.args.state.now c.args.listed.now c.args.third) c.loop-z.z c.loop-z.invariant (sym c.is_target_listed.ensures ∙ c.if-not-is_target_listed.false)
