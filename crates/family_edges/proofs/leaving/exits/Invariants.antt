use Rattle.family_edges.specs.Exits.{ExitsSoFar}
use Rattle.family_edges.proofs.leaving.exits.Given as goal
use Rattle.family_edges.specs.Tasks.{task_of}

abbrev pub invariant-loop-at : goal.invariant-loop-at
invariant-loop-at l = ExitsSoFar (task_of l.task) l.nodes l.at l.items.items
