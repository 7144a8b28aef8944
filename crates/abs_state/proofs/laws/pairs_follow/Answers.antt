use Rattle.abs_state.proofs.AllLaws.{states_are_cut, writes_end_facts, hulls_hold_intervals}
use Rattle.abs_state.proofs.laws.pairs_follow.Goals as goal

pub returns-clause-cuts : goal.returns-clause-cuts
returns-clause-cuts c = states_are_cut

pub returns-clause-writes : goal.returns-clause-writes
returns-clause-writes c = writes_end_facts

pub returns-clause-hulls : goal.returns-clause-hulls
returns-clause-hulls c = hulls_hold_intervals
