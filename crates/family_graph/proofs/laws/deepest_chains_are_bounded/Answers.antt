use Rattle.family_graph.proofs.Conditions.{chains_are_bounded}
use Rattle.family_graph.proofs.laws.deepest_chains_are_bounded.Goals as goal

pub returns : goal.returns
returns c = chains_are_bounded
