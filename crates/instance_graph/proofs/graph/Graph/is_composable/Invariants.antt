use Rattle.instance_graph.proofs.Tested.{AreComposable}
use Rattle.instance_graph.proofs.graph.Graph.is_composable.Given as goal

abbrev pub invariant-loop-i : goal.invariant-loop-i
invariant-loop-i l = AreComposable l.instances l.i
