use Rattle.round_solutions.proofs.AnswerLaws as all
use Rattle.round_solutions.proofs.laws.answers_are_one.Goals as goal

pub returns : goal.returns
returns c = all.answers_are_one
