-- The result of one trial. Source: own.
use Rattle.std.specs.Prelude.{ℕ, ◌≡◌, ◌≢◌, List, Option, Some, None}
use Rattle.avr_model.specs.declared.choice.Choice.{Choice}
use Rattle.avr_model.specs.Devices.{device_of}
use Rattle.avr_model.specs.State.{filled}
use Rattle.avr_model.specs.Run.{IsRun, depth_of}
use Rattle.witness_search.specs.declared.waypoint.Waypoint.{Waypoint}
use Rattle.witness_search.specs.Trials.{trial_by}
use Rattle.local_rules.specs.Site.{Task}

-- the choices of the trial, whose depth is the bound
pub record IsAttempt (steps : ℕ) (task : Task) (points : List Waypoint) (bound fill : ℕ) (choices : List Choice) : Type 0 where
  pub are : choices ≡ trial_by steps task points bound fill
  pub run : IsRun task.flash task.assumptions choices (filled (device_of task.flash) fill)
  pub depth : depth_of task.flash task.assumptions choices (filled (device_of task.flash) fill) ≡ bound

-- the choices, or none if the depth is not the bound
abbrev pub IsAttempted : ℕ → Task → List Waypoint → ℕ → ℕ → Option (List Choice) → Type 0
IsAttempted steps task points bound fill None = depth_of task.flash task.assumptions (trial_by steps task points bound fill) (filled (device_of task.flash) fill) ≢ bound
IsAttempted steps task points bound fill (Some choices) = IsAttempt steps task points bound fill choices
