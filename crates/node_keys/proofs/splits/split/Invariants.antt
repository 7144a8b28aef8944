use Rattle.std.proofs.Common.{◌≡◌, ◌≤◌}
use Rattle.node_keys.proofs.Steps.{below}
use Rattle.node_keys.proofs.splits.split.Given as goal

-- the unknown bits of the vectors below v are split
abbrev pub invariant-loop-v : goal.invariant-loop-v
invariant-loop-v l = record { low : 2 ≤ l.v; so_far : l.splits.items ≡ below l.device l.m l.address l.value l.v }
