use Rattle.node_keys.proofs.AllLaws.{keys_are_their_numbers, nodes_go_by_instance}
use Rattle.node_keys.proofs.laws.keys_are_their_numbers.Goals as goal

pub returns : goal.returns
returns c = record { numbers = keys_are_their_numbers; instances = nodes_go_by_instance }
