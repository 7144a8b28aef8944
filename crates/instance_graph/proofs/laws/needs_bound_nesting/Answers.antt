use Rattle.instance_graph.proofs.AllLaws as all
use Rattle.instance_graph.proofs.laws.needs_bound_nesting.Goals as goal

pub returns-clause-bound : goal.returns-clause-bound
returns-clause-bound c = all.needs_bound_nesting

pub returns-clause-reached : goal.returns-clause-reached
returns-clause-reached c = all.chains_reach_the_need
