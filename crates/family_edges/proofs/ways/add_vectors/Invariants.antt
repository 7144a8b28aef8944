use Rattle.std.proofs.Common.{◌≡◌, ◌++◌}
use Rattle.family_edges.specs.Ways.{vectors_below}
use Rattle.family_edges.proofs.ways.add_vectors.Given as goal
use Rattle.family_edges.specs.Tasks.{task_of}

abbrev pub invariant-loop-n : goal.invariant-loop-n
invariant-loop-n l = l.ways.items ≡ l.fn.ways.items ++ vectors_below (task_of l.task) l.key l.n
