use Rattle.sp_domain.proofs.AllLaws.{pairs_are_true, differences_are_true, sums_are_true, tag_arithmetic_is_monotone}
use Rattle.sp_domain.proofs.laws.tag_arithmetic_is_true.Goals as goal

pub returns-clause-pairs : goal.returns-clause-pairs
returns-clause-pairs c = pairs_are_true

pub returns-clause-differences : goal.returns-clause-differences
returns-clause-differences c = differences_are_true

pub returns-clause-sums : goal.returns-clause-sums
returns-clause-sums c = sums_are_true

pub returns-clause-monotone : goal.returns-clause-monotone
returns-clause-monotone c = tag_arithmetic_is_monotone
