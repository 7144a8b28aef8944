use Rattle.family_graph.proofs.One as one
use Rattle.family_graph.proofs.laws.deepest_chains_are_one.Goals as goal

pub returns : goal.returns
returns c = one.deepest_chains_are_one c.graphs_are_alike.ensures c.answers_are_one.ensures c.chains_are_one.ensures
