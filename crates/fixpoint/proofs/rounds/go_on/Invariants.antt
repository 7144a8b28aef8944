use Rattle.fixpoint.specs.Turns.{AreUnderWay, room}
use Rattle.fixpoint.proofs.rounds.go_on.Given as goal
use Rattle.family_edges.specs.Tasks.{task_of}

abbrev pub invariant-each : goal.invariant-each
invariant-each l = AreUnderWay (task_of l.task) l.steps l.rounds

abbrev pub decreases-each : goal.decreases-each
decreases-each l = room l.rounds.table
