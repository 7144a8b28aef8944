use Rattle.node_keys.proofs.AllLaws.{keys_are_ordered}
use Rattle.node_keys.proofs.laws.keys_are_ordered.Goals as goal

pub returns : goal.returns
returns c = keys_are_ordered
