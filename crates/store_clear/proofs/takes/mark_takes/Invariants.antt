use Rattle.store_clear.specs.Takes.{AreMarkedBeside, IsTakenAt}
use Rattle.store_clear.proofs.takes.mark_takes.Given as goal
use Rattle.family_edges.specs.Tasks.{task_of}

abbrev pub invariant-loop-at : goal.invariant-loop-at
invariant-loop-at l = AreMarkedBeside (IsTakenAt (task_of l.task) l.nodes l.at) l.fn.marks l.marks
