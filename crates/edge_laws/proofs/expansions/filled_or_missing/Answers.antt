use Rattle.edge_laws.proofs.ExpansionLaws as all
use Rattle.edge_laws.proofs.expansions.filled_or_missing.Goals as goal

pub returns : goal.returns
returns c = all.filled_or_missing
