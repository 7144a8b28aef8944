use Rattle.std.proofs.Common.{◌≤◌, length}
use Rattle.local_rules.specs.Placing.{place_in}
use Rattle.local_rules.proofs.local.place_for.Given as goal

-- no node from here on comes before the key
abbrev pub invariant-loop-at : goal.invariant-loop-at
invariant-loop-at l = record {
  inside : l.at ≤ length l.nodes;
  most : place_in l.key l.nodes ≤ l.at;
}

abbrev pub decreases-loop-at : goal.decreases-loop-at
decreases-loop-at l = l.at
