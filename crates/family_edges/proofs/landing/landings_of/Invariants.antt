use Rattle.std.proofs.Common.{◌≡◌, take}
use Rattle.family_edges.specs.Landings.{landings_by}
use Rattle.family_edges.proofs.landing.landings_of.Given as goal

abbrev pub invariant-loop-edge : goal.invariant-loop-edge
invariant-loop-edge l = l.landings ≡ landings_by l.nodes (take l.edge-index l.edges)
