use Rattle.pair_laws.proofs.AllLaws.{refined_is_ordered}
use Rattle.pair_laws.proofs.laws.refined_is_ordered.Goals as goal

pub returns : goal.returns
returns c = refined_is_ordered
