use Rattle.store_clear.specs.Conditions.{AreConditionsTo}
use Rattle.store_clear.proofs.listing.conditions_of.Given as goal
use Rattle.family_edges.specs.Tasks.{task_of}

abbrev pub invariant-loop-at : goal.invariant-loop-at
invariant-loop-at l = AreConditionsTo (task_of l.task) l.bound l.nodes l.at l.conditions.items
