use Rattle.std.proofs.Common.{◌-◌}
use Rattle.chain_explain.specs.Moves.{moves_by, IsPortion}
use Rattle.chain_explain.proofs.way.portion.Given as goal

abbrev pub invariant-loop-at : goal.invariant-loop-at
invariant-loop-at l = IsPortion (moves_by l.family.landings) l.low (l.at - l.low) l.portion.items
