use Rattle.std.proofs.Common.{◌≤◌, ◌<◌, take}
use Rattle.std.specs.List.{Contains}
use Rattle.instance_graph.specs.declared.graph.Entered.{Entered}
use Rattle.instance_graph.proofs.shape.lead_inside.Given as goal

abbrev pub invariant-loop-entered : goal.invariant-loop-entered
invariant-loop-entered l = (e : Entered) → Contains (take l.entered-index l.edges) e → (e.offset ≤ 32768) × (e.into < l.count)
