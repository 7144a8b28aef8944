use Rattle.pair_laws.proofs.AllLaws.{refined_holds}
use Rattle.pair_laws.proofs.laws.refined_holds.Goals as goal

pub returns : goal.returns
returns c = refined_holds
