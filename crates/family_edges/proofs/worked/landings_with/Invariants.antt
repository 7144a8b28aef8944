use Rattle.family_edges.specs.Landings.{AreLandingsTo}
use Rattle.family_edges.proofs.worked.landings_with.Given as goal
use Rattle.family_edges.specs.Tasks.{task_of}

abbrev pub invariant-loop-at : goal.invariant-loop-at
invariant-loop-at l = AreLandingsTo (task_of l.task) l.nodes l.at l.all
