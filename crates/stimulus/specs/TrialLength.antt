-- The length of a trial. Source: own.
use Rattle.std.specs.Prelude.{ℕ}

-- the most choices of a trial
unfoldable pub most_trial_steps : ℕ
most_trial_steps = 200000
