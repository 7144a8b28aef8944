use Rattle.std.proofs.Common.{◌+◌, ◌*◌, length}
use Rattle.instance_graph.specs.Reach.{IsMarked, count_new}
use Rattle.instance_graph.proofs.reach.reaches_itself.Given as goal

abbrev pub invariant-marks : goal.invariant-marks
invariant-marks l = IsMarked l.graph l.from l.marks l.stack.items

abbrev pub decreases-marks : goal.decreases-marks
decreases-marks l = 2 * count_new l.marks + length l.stack.items
