use Rattle.family_tables.proofs.Clearness as samples
use Rattle.family_tables.proofs.tests.clearness.clearness_is_met.Goals as goal

pub returns : goal.returns
returns c = samples.clearness_is_met
