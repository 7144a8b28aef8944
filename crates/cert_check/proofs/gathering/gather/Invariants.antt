use Rattle.cert_check.specs.Demands.{AreGathered}
use Rattle.cert_check.proofs.gathering.gather.Given as goal
use Rattle.family_edges.specs.Tasks.{task_of}

abbrev pub invariant-loop-at : goal.invariant-loop-at
invariant-loop-at l = AreGathered (task_of l.task) l.certificate l.nodes l.at l.gathered
