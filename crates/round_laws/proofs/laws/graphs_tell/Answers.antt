use Rattle.round_laws.proofs.Told as told
use Rattle.round_laws.proofs.laws.graphs_tell.Goals as goal

pub returns : goal.returns
returns c = told.graphs_tell
