use Rattle.std.proofs.Common.{◌≤◌, take, slice_index}
use Rattle.std.specs.List.{Contains}
use Rattle.instance_graph.specs.declared.graph.Entered.{Entered}
use Rattle.instance_graph.proofs.cycle.highest.Given as goal

abbrev pub invariant-loop-entered : goal.invariant-loop-entered
invariant-loop-entered l = (e : Entered) → Contains (take l.entered-index l.edges) e → slice_index l.numbers e.into ≤ l.most
