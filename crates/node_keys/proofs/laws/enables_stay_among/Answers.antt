use Rattle.node_keys.proofs.AllLaws as all
use Rattle.node_keys.proofs.laws.enables_stay_among.Goals as goal

pub returns : goal.returns
returns c = all.enables_stay_among
