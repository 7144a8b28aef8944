use Rattle.std.proofs.Common.{take}
use Rattle.shortest_walk.specs.Nearest.{IsNearestOf}
use Rattle.shortest_walk.proofs.nearest.nearest.Given as goal

abbrev pub invariant-loop-node : goal.invariant-loop-node
invariant-loop-node l = IsNearestOf l.distances (take l.node-index l.nodes) l.best
