use Rattle.std.proofs.Common.{take}
use Rattle.instance_graph.specs.Turn.{IsBestNode}
use Rattle.instance_graph.proofs.chaining.best_node.Given as goal

abbrev pub invariant-loop-closed : goal.invariant-loop-closed
invariant-loop-closed l = IsBestNode l.need (take l.closed-index l.nodes) l.best
