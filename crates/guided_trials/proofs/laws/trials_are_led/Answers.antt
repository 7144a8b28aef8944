use Rattle.guided_trials.proofs.Led as led
use Rattle.guided_trials.proofs.laws.trials_are_led.Goals as goal

pub returns : goal.returns
returns c = led.trials_are_led
