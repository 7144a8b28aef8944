use Rattle.round_solutions.proofs.AllLaws as all
use Rattle.round_solutions.proofs.laws.solved_families_are_shown.Goals as goal

pub returns-clause-shown : goal.returns-clause-shown
returns-clause-shown c = all.solved_families_are_shown

pub returns-clause-acyclic : goal.returns-clause-acyclic
returns-clause-acyclic c = all.graphs_are_acyclic

pub returns-clause-made : goal.returns-clause-made
returns-clause-made c = all.solutions_are_made
