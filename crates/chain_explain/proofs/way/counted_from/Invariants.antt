use Rattle.std.proofs.Common.{◌≡◌, ◌-◌, map, take}
use Rattle.chain_explain.specs.Moves.{moves_of}
use Rattle.chain_explain.proofs.way.counted_from.Given as goal

abbrev pub invariant-loop-landing : goal.invariant-loop-landing
invariant-loop-landing l = l.found ≡ map (λ j. j - l.low) (moves_of (take l.landing-index l.landings))
