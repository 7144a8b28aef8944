use Rattle.std.proofs.Common.{take}
use Rattle.instance_graph.specs.Turn.{IsBestEdge}
use Rattle.instance_graph.proofs.chaining.best_edge.Given as goal

abbrev pub invariant-loop-entered : goal.invariant-loop-entered
invariant-loop-entered l = IsBestEdge l.back l.instances l.needs l.need (take l.entered-index l.edges) l.best
