use Rattle.std.proofs.Common.{◌≡◌, take}
use Rattle.family_graph.specs.Numbers.{ways_by}
use Rattle.family_graph.proofs.entering.ways_of.Given as goal

abbrev pub invariant-loop-landing : goal.invariant-loop-landing
invariant-loop-landing l = l.ways ≡ ways_by l.nodes (take l.landing-index l.landings)
