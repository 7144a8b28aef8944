use Rattle.std.proofs.Common.{sym, subst, false}
use Rattle.edge_rules.specs.Expansion.{Seeds, AreSeeds}
use Rattle.edge_laws.specs.Expansions.{AreSeedsAscending}
use Rattle.family_tables.proofs.Growing.{none_given}
use Rattle.family_tables.proofs.tests.seeds.seeds_of.Goals as goal

pub loop-at-init : goal.loop-at-init
loop-at-init c = subst (λ (xs : Seeds). AreSeeds c.args.device false xs × AreSeedsAscending xs) (sym c.new-items.ensures.items) (none_given c.args.device)
