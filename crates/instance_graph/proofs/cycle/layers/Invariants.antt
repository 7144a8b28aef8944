use Rattle.instance_graph.proofs.Naming.{AreLayersBelow}
use Rattle.instance_graph.proofs.cycle.layers.Given as goal

abbrev pub invariant-loop-i : goal.invariant-loop-i
invariant-loop-i l = AreLayersBelow l.graph l.numbers.items l.i
