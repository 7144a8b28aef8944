use Rattle.std.proofs.Common.{false}
use Rattle.edge_rules.specs.Expansion.{AreSeeds}
use Rattle.edge_laws.specs.Expansions.{AreSeedsAscending}
use Rattle.family_tables.proofs.tests.seeds.seeds_of.Given as goal

abbrev pub invariant-loop-at : goal.invariant-loop-at
invariant-loop-at l = AreSeeds l.fn.device false l.items.items × AreSeedsAscending l.items.items
