use Rattle.pair_laws.proofs.AllLaws.{operands_fit}
use Rattle.pair_laws.proofs.laws.operands_fit.Goals as goal

pub returns : goal.returns
returns c = operands_fit
