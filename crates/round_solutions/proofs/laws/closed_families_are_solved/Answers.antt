use Rattle.round_solutions.proofs.CloseLaws as all
use Rattle.round_solutions.proofs.laws.closed_families_are_solved.Goals as goal

pub returns : goal.returns
returns c = all.closed_families_are_solved
