use Rattle.std.proofs.Common.{ℕ, ◌<◌}
use Rattle.family_graph.specs.Numbers.{IsRooted}
use Rattle.family_edges.specs.Tasks.{task_of}
use Rattle.family_graph.proofs.rooted.are_rooted.Given as goal

abbrev pub invariant-loop-at : goal.invariant-loop-at
invariant-loop-at l = (i : ℕ) → i < l.at → IsRooted (task_of l.task) l.nodes i
