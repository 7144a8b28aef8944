use Rattle.std.proofs.Common.{ℕ, ◌≤◌, take}
use Rattle.std.specs.List.{Contains}
use Rattle.instance_graph.specs.declared.graph.ClosedNode.{ClosedNode}
use Rattle.instance_graph.proofs.peel.greatest.Given as goal

abbrev pub invariant-loop-closed : goal.invariant-loop-closed
invariant-loop-closed l = record {
  above : (p : ClosedNode) → Contains (take l.closed-index l.nodes) p → p.offset ≤ l.most;
  least : (m : ℕ) → ((p : ClosedNode) → Contains (take l.closed-index l.nodes) p → p.offset ≤ m) → l.most ≤ m;
}
