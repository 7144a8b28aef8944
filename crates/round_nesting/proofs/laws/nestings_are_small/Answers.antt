use Rattle.round_nesting.proofs.Small as small
use Rattle.round_nesting.proofs.laws.nestings_are_small.Goals as goal

pub returns : goal.returns
returns c = small.nestings_are_small
