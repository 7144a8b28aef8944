use Rattle.bit_domain.proofs.AllLaws.{bits_cover, writes_cover, sums_cover, sums_are_monotone, logic_covers, logic_is_monotone}
use Rattle.bit_domain.proofs.laws.operations_cover.Goals as goal

pub returns-clause-bits : goal.returns-clause-bits
returns-clause-bits c = bits_cover

pub returns-clause-writes : goal.returns-clause-writes
returns-clause-writes c = writes_cover

pub returns-clause-sums : goal.returns-clause-sums
returns-clause-sums c = sums_cover

pub returns-clause-more_sums : goal.returns-clause-more_sums
returns-clause-more_sums c = sums_are_monotone

pub returns-clause-logic : goal.returns-clause-logic
returns-clause-logic c = logic_covers

pub returns-clause-more_logic : goal.returns-clause-more_logic
returns-clause-more_logic c = logic_is_monotone
