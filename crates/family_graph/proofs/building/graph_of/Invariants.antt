use Rattle.family_graph.specs.Numbers.{AreGraphInsts}
use Rattle.family_graph.proofs.building.graph_of.Given as goal
use Rattle.family_edges.specs.Tasks.{task_of}

abbrev pub invariant-loop-i : goal.invariant-loop-i
invariant-loop-i l = AreGraphInsts (task_of l.task) l.nodes l.numbering.insts.items l.i l.instances.items
