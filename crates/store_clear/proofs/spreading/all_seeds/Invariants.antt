use Rattle.store_clear.specs.Conditions.{AreSeedsTo}
use Rattle.store_clear.proofs.spreading.all_seeds.Given as goal
use Rattle.family_edges.specs.Tasks.{task_of}

abbrev pub invariant-loop-at : goal.invariant-loop-at
invariant-loop-at l = AreSeedsTo (task_of l.task) l.family.nodes l.at l.seeds
