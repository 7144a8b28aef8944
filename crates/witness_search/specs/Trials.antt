-- Trials along waypoints, and the first that succeeds. Source: own.
use Rattle.std.specs.Prelude.{ℕ, ◌≡◌, List, [], ◌∷◌, ◌++◌, Option, Some, None, Contains}
use Rattle.avr_model.specs.declared.choice.Choice.{Choice}
use Rattle.avr_model.specs.Masks.{reads_masks}
use Rattle.avr_model.specs.Devices.{device_of}
use Rattle.avr_model.specs.State.{filled}
use Rattle.avr_model.specs.Run.{starting, depth_of}
use Rattle.stimulus.specs.Driving.{choices_by}
use Rattle.witness_replay.specs.Spelling.{Plan, IsSchedule, choices_of}
use Rattle.stimulus.specs.TrialLength.{most_trial_steps}
use Rattle.witness_search.specs.declared.waypoint.Waypoint.{Waypoint}
use Rattle.witness_search.specs.Waypoints.{pick_due, due_left}
use Rattle.local_rules.specs.Site.{Task}

-- the fill bytes of the trials in order: the initial memory and all input of a trial
abbrev pub fills : List ℕ
fills = 0x00 ∷ 0xFF ∷ 0x55 ∷ 0xAA ∷ 0x01 ∷ 0x80 ∷ 0x7F ∷ 0xFE ∷ []

-- The choices of the trial with this fill byte, from reset until the depth is at least the bound, or a stop, or this many steps.
abbrev pub trial_by : ℕ → Task → List Waypoint → ℕ → ℕ → List Choice
trial_by steps task points bound fill =
    choices_by (pick_due (reads_masks (device_of task.flash) task.assumptions) fill) (due_left (reads_masks (device_of task.flash) task.assumptions)) task.flash task.assumptions bound steps points (starting (filled (device_of task.flash) fill))

unfoldable pub trial_of : Task → List Waypoint → ℕ → ℕ → List Choice
trial_of task points bound fill = trial_by most_trial_steps task points bound fill

-- a trial succeeds if its depth is the bound
abbrev pub Succeeds : Task → List Waypoint → ℕ → ℕ → Type 0
Succeeds task points bound fill = depth_of task.flash task.assumptions (trial_of task points bound fill) (filled (device_of task.flash) fill) ≡ bound

abbrev pub NoneSucceeds : Task → List Waypoint → ℕ → List ℕ → Type 0
NoneSucceeds task points bound ts = (fill : ℕ) → Contains ts fill → Succeeds task points bound fill → ⊥

-- a schedule of the trial with its fill byte
pub record IsTrial (task : Task) (points : List Waypoint) (bound : ℕ) (plan : Plan) : Type 0 where
  pub fits : IsSchedule (device_of task.flash) plan
  pub choices : choices_of plan.runs ≡ trial_of task points bound plan.fill

-- the result of one trial: a schedule if it succeeds
abbrev pub IsTried : Task → List Waypoint → ℕ → ℕ → Option Plan → Type 0
IsTried task points bound fill None = Succeeds task points bound fill → ⊥
IsTried task points bound fill (Some plan) = (plan.fill ≡ fill) × Succeeds task points bound fill × IsTrial task points bound plan

-- a schedule of the first trial that succeeds
pub record IsFirstFilled (task : Task) (points : List Waypoint) (bound : ℕ) (plan : Plan) : Type 0 where
  pub before : List ℕ
  pub after : List ℕ
  pub order : fills ≡ before ++ plan.fill ∷ after
  pub failed : NoneSucceeds task points bound before
  pub succeeds : Succeeds task points bound plan.fill
  pub trial : IsTrial task points bound plan

-- the result of the trials: the first schedule, or none if no trial succeeds
abbrev pub IsFound : Task → List Waypoint → ℕ → Option Plan → Type 0
IsFound task points bound None = NoneSucceeds task points bound fills
IsFound task points bound (Some plan) = IsFirstFilled task points bound plan
