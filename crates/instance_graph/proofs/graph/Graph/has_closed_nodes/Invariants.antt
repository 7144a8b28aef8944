use Rattle.std.proofs.Common.{ℕ, ◌<◌}
use Rattle.instance_graph.specs.declared.graph.Entered.{Entered}
use Rattle.instance_graph.specs.Chain.{HasSome}
use Rattle.instance_graph.specs.Graph.{EntersAlong}
use Rattle.instance_graph.proofs.graph.Graph.has_closed_nodes.Given as goal

abbrev pub invariant-loop-i : goal.invariant-loop-i
invariant-loop-i l = (k : ℕ) (e : Entered) → k < l.i → EntersAlong l.instances k e → HasSome l.instances e.into
