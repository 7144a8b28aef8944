use Rattle.instance_graph.proofs.AllLaws.{answers_are_one}
use Rattle.instance_graph.proofs.laws.answers_are_one.Goals as goal

pub returns : goal.returns
returns c = answers_are_one
