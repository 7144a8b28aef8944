use Rattle.std.specs.Vec.Iter.{into_iter_items}
use Rattle.round_steps.specs.Joins.{AreJoinedSoFar}
use Rattle.round_steps.proofs.joining.join_all.Given as goal

abbrev pub invariant-loop-node : goal.invariant-loop-node
invariant-loop-node l = AreJoinedSoFar l.fn.table (into_iter_items l.initial.node-iterator) l.table l.counted (into_iter_items l.node-iterator) l.changed.items
