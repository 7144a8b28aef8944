use Rattle.edge_laws.specs.Carrying.{AreExpandedSoFar}
use Rattle.family_edges.proofs.expanding.expand.Given as goal
use Rattle.family_edges.specs.Tasks.{task_of}
use Rattle.family_edges.specs.Expanding.{AreKept}

abbrev pub invariant-loop-at : goal.invariant-loop-at
invariant-loop-at g l = AreExpandedSoFar (task_of l.task) (g.S.Seeded.nodes l.nodes) l.at l.done.items × AreKept (task_of l.task) l.done.items l.kept.from l.kept.nodes.items
