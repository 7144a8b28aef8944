use Rattle.store_clear.specs.Takes.{AreMarkedBeside, IsTakenBelow}
use Rattle.store_clear.proofs.takes.mark_vectors.Given as goal
use Rattle.family_edges.specs.Tasks.{task_of}

abbrev pub invariant-loop-n : goal.invariant-loop-n
invariant-loop-n l = AreMarkedBeside (IsTakenBelow (task_of l.task) l.key l.n) l.fn.marks l.marks
