use Rattle.pair_laws.proofs.AllLaws.{values_are_covered}
use Rattle.pair_laws.proofs.laws.values_are_covered.Goals as goal

pub returns : goal.returns
returns c = values_are_covered
