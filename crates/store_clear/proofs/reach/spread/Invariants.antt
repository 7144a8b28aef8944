use Rattle.std.proofs.Common.{◌+◌, ◌*◌, length}
use Rattle.store_clear.specs.Spreading.{IsSpreading, count_new}
use Rattle.store_clear.proofs.reach.spread.Given as goal

abbrev pub invariant-marks : goal.invariant-marks
invariant-marks l = IsSpreading l.nodes.links.now l.nodes.offsets.now l.nodes.seeds.now l.slot l.seen l.stack.items

abbrev pub decreases-marks : goal.decreases-marks
decreases-marks l = 2 * count_new l.seen + length l.stack.items
