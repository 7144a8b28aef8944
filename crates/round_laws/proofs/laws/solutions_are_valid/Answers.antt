use Rattle.round_laws.proofs.AllLaws as all
use Rattle.round_laws.proofs.laws.solutions_are_valid.Goals as goal

pub returns : goal.returns
returns c = all.solutions_are_valid
