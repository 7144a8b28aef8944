use Rattle.local_laws.proofs.AllLaws as laws
use Rattle.local_laws.proofs.laws.open_pairs_stay.Goals as goal

pub returns : goal.returns
returns c = laws.open_pairs_stay
