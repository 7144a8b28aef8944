use Rattle.std.proofs.Common.{take}
use Rattle.fixpoint.specs.Confirm.{LandAt}
use Rattle.fixpoint.proofs.confirming.check_all_edges.Given as goal
use Rattle.family_edges.specs.Tasks.{task_of}

abbrev pub invariant-loop-at : goal.invariant-loop-at
invariant-loop-at l = LandAt (task_of l.task) l.table (take l.at l.keys)
