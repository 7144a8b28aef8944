use Rattle.std.proofs.Common.{take, drop}
use Rattle.chain_explain.specs.Explanation.{AreParts}
use Rattle.chain_explain.proofs.parts.parts.Given as goal
use Rattle.family_edges.specs.Tasks.{task_of}

abbrev pub invariant-loop-at : goal.invariant-loop-at
invariant-loop-at l = AreParts (task_of l.task) l.family.nodes l.reached (take l.at l.links) (drop l.at l.links) l.parts
