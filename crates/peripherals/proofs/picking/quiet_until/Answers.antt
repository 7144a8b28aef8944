use Rattle.avr_model.specs.Vectors.{is_enabled}
use Rattle.peripherals.proofs.Quiet.{quiet_more}
use Rattle.peripherals.proofs.picking.quiet_until.Goals as goal

pub loop-n-preserved : goal.loop-n-preserved
loop-n-preserved c =
    quiet_more c.args.peripherals.now (is_enabled c.args.device c.args.masks) c.args.taken.now c.loop-n.n c.count-n-end.result c.loop-n.until c.quiet_of.result c.min-until.result (c.count-n-end.ensures) c.loop-n-test.true c.min-until.ensures c.quiet_of.ensures c.loop-n.invariant
