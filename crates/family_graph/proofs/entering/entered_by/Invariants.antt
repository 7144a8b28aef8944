use Rattle.family_graph.specs.Graphs.{AreWaysTo}
use Rattle.family_graph.proofs.entering.entered_by.Given as goal
use Rattle.family_edges.specs.Tasks.{task_of}

abbrev pub invariant-loop-at : goal.invariant-loop-at
invariant-loop-at l = AreWaysTo (task_of l.task) l.family.nodes l.at l.all
