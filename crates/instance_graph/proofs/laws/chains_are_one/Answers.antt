use Rattle.instance_graph.proofs.AllLaws.{chains_are_one}
use Rattle.instance_graph.proofs.laws.chains_are_one.Goals as goal

pub returns : goal.returns
returns c = chains_are_one
