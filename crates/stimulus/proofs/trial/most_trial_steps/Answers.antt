use Rattle.std.proofs.Common.{refl}
use Rattle.stimulus.specs.TrialLength.{most_trial_steps}
use Rattle.stimulus.proofs.trial.most_trial_steps.Goals as goal

pub returns : goal.returns
unfolding most_trial_steps
returns c = refl
