use Rattle.abs_state.proofs.AllLaws.{bits_make_values, values_say_less, slots_follow}
use Rattle.abs_state.proofs.laws.states_stand.Goals as goal

pub returns-clause-bits : goal.returns-clause-bits
returns-clause-bits c = bits_make_values

pub returns-clause-less : goal.returns-clause-less
returns-clause-less c = values_say_less

pub returns-clause-slots : goal.returns-clause-slots
returns-clause-slots c = slots_follow
