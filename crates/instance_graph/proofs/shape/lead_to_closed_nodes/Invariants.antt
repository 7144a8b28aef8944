use Rattle.std.proofs.Common.{take}
use Rattle.std.specs.List.{Contains}
use Rattle.instance_graph.specs.declared.graph.Entered.{Entered}
use Rattle.instance_graph.specs.Chain.{HasSome}
use Rattle.instance_graph.proofs.shape.lead_to_closed_nodes.Given as goal

abbrev pub invariant-loop-entered : goal.invariant-loop-entered
invariant-loop-entered l = (e : Entered) → Contains (take l.entered-index l.edges) e → HasSome l.instances e.into
