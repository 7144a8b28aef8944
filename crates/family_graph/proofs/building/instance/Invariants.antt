use Rattle.std.specs.Prelude.{◌↔◌}
use Rattle.std.proofs.Common.{Contains}
use Rattle.instance_graph.specs.declared.graph.Entered.{Entered}
use Rattle.instance_graph.specs.declared.graph.ClosedNode.{ClosedNode}
use Rattle.family_graph.specs.Numbers.{IsNodeBetween, IsEntryBetween}
use Rattle.family_graph.proofs.building.instance.Given as goal
use Rattle.family_edges.specs.Tasks.{task_of}

abbrev pub invariant-loop-at : goal.invariant-loop-at
invariant-loop-at l =
    ((p : ClosedNode) → Contains l.parts.offsets.items p ↔ IsNodeBetween l.nodes l.low l.at p)
    × ((e : Entered) → Contains l.parts.entered.items e ↔ IsEntryBetween (task_of l.task) l.nodes l.numbering.insts.items l.low l.at e)
