use Rattle.std.proofs.Common.{None}
use Rattle.fixpoint.specs.Turns.{AreUnderWay, IsOnItsWay}
use Rattle.fixpoint.proofs.ordering.take_turns.Given as goal
use Rattle.family_edges.specs.Tasks.{task_of}

abbrev pub invariant-turns : goal.invariant-turns
invariant-turns l = AreUnderWay (task_of l.task) None l.rounds × IsOnItsWay (task_of l.task) l.walk
