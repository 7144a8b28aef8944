use Rattle.round_solutions.proofs.AllLaws as all
use Rattle.round_solutions.proofs.laws.lone_edges_tell.Goals as goal

pub returns : goal.returns
returns c = all.lone_edges_tell
