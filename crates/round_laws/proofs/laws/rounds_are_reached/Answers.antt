use Rattle.round_laws.proofs.Reached as reached
use Rattle.round_laws.proofs.laws.rounds_are_reached.Goals as goal

pub returns : goal.returns
returns c = reached.rounds_are_reached
