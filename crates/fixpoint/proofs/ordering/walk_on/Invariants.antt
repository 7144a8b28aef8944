use Rattle.std.proofs.Common.{◌+◌, ◌*◌}
use Rattle.std.specs.BinaryHeap.{heap_len}
use Rattle.fixpoint.specs.Turns.{IsOnItsWay, room}
use Rattle.fixpoint.proofs.ordering.walk_on.Given as goal
use Rattle.family_edges.specs.Tasks.{task_of}

abbrev pub invariant-visits : goal.invariant-visits
invariant-visits l = IsOnItsWay (task_of l.task) l.walk

-- each item that is added to the worklist raises the weight by one
abbrev pub decreases-visits : goal.decreases-visits
decreases-visits l = 2 * room l.walk.table + heap_len l.walk.waiting
