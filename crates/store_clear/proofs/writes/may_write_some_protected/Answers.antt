use Rattle.std.proofs.Common.{sym, ap, ◌∙◌, ◌+◌, ◌<◌, arith}
use Rattle.avr_model.specs.Devices.{device_of, guarded_end}
use Rattle.clear_laws.specs.Causes.{may_write_protected}
use Rattle.clear_laws.proofs.AllLaws.{any_found}
use Rattle.store_clear.proofs.Scans.{any_none, any_more}
use Rattle.store_clear.proofs.writes.may_write_some_protected.Goals as goal
use Rattle.store_clear.specs.Stores.{task_in, store_of}

pub loop-address-init : goal.loop-address-init
loop-address-init c = any_none (may_write_protected (task_in c.args.store.now) (store_of c.args.store.now))

pub returns-then-may_write_protected : goal.returns-then-may_write_protected
returns-then-may_write_protected c =
    let lt : c.loop-address.address < guarded_end (device_of c.args.store.now.flash.now) + 1 = omega (arith, c.loop-address-test.true, ap guarded_end c.device.ensures) in
    sym (any_found (may_write_protected (task_in c.args.store.now) (store_of c.args.store.now)) c.loop-address.address _ lt
    (sym c.may_write_protected.ensures ∙ c.if-may_write_protected.true))

pub loop-address-preserved : goal.loop-address-preserved
loop-address-preserved c =
    any_more (may_write_protected (task_in c.args.store.now) (store_of c.args.store.now)) c.loop-address.address c.loop-address.invariant
    (sym c.may_write_protected.ensures ∙ c.if-may_write_protected.false)
