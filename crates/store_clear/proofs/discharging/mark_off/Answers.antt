use Rattle.std.proofs.Common.{◌<◌, length, arith}
use Rattle.store_clear.proofs.Discharged.{marked_none, marked_more}
use Rattle.store_clear.proofs.discharging.mark_off.Goals as goal

pub loop-at-init : goal.loop-at-init
loop-at-init c = marked_none c.args.slot c.args.marks.now c.args.conditions.now

pub loop-at-preserved : goal.loop-at-preserved
loop-at-preserved c =
    let lt : c.loop-at.at < length c.loop-at.conditions = omega (arith, c.loop-at-test.true, c.loop-at.auto.conditions) in
    marked_more c.args.slot c.args.marks.now c.loop-at.at c.args.conditions.now c.loop-at.conditions c.discharged.result c.loop-at.invariant lt c.discharged.ensures
