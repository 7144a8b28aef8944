use Rattle.std.proofs.Common.{◌≤◌, take}
use Rattle.std.specs.List.{Contains}
use Rattle.instance_graph.specs.declared.graph.ClosedNode.{ClosedNode}
use Rattle.instance_graph.proofs.shape.are_low.Given as goal

abbrev pub invariant-loop-closed : goal.invariant-loop-closed
invariant-loop-closed l = (p : ClosedNode) → Contains (take l.closed-index l.nodes) p → p.offset ≤ 32768
