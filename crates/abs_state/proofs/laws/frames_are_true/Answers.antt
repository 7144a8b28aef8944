use Rattle.abs_state.proofs.AllLaws.{reset_stands, entries_are_true, returns_are_true, tags_stay_fit, states_are_of}
use Rattle.abs_state.proofs.laws.frames_are_true.Goals as goal

pub returns-clause-reset : goal.returns-clause-reset
returns-clause-reset c = reset_stands

pub returns-clause-entries : goal.returns-clause-entries
returns-clause-entries c = entries_are_true

pub returns-clause-returns : goal.returns-clause-returns
returns-clause-returns c = returns_are_true

pub returns-clause-tags : goal.returns-clause-tags
returns-clause-tags c = tags_stay_fit

pub returns-clause-devices : goal.returns-clause-devices
returns-clause-devices c = states_are_of
