use Rattle.instance_graph.proofs.AllLaws.{ranks_rule_out_cycles}
use Rattle.instance_graph.proofs.laws.ranks_rule_out_cycles.Goals as goal

pub returns : goal.returns
returns c = ranks_rule_out_cycles
