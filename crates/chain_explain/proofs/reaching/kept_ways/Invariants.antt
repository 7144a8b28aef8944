use Rattle.std.proofs.Common.{◌≡◌, ◌++◌, drop}
use Rattle.chain_explain.specs.Moves.{kept_by}
use Rattle.chain_explain.proofs.reaching.kept_ways.Given as goal

abbrev pub invariant-loop-at : goal.invariant-loop-at
invariant-loop-at l = kept_by l.marks l.ways ≡ l.kept ++ kept_by (drop l.at l.marks) (drop l.at l.ways)
