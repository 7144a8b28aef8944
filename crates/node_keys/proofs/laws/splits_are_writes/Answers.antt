use Rattle.node_keys.proofs.AllLaws.{splits_are_writes}
use Rattle.node_keys.proofs.laws.splits_are_writes.Goals as goal

pub returns : goal.returns
returns c = splits_are_writes
