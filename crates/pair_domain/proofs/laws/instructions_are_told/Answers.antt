use Rattle.pair_domain.proofs.AllLaws.{rows_are_true, rows_are_monotone, compares_are_told}
use Rattle.pair_domain.proofs.laws.instructions_are_told.Goals as goal

pub returns-clause-rows : goal.returns-clause-rows
returns-clause-rows c = rows_are_true

pub returns-clause-more : goal.returns-clause-more
returns-clause-more c = rows_are_monotone

pub returns-clause-compares : goal.returns-clause-compares
returns-clause-compares c = compares_are_told
