-- A run in progress: definitions for the contracts of internal functions.
use Rattle.std.specs.Prelude.{ℕ, ◌≡◌, ◌≤◌, ◌<◌, List, length, Bool, true, false, Option, None}
use Rattle.std.specs.List.{All}
use Rattle.avr_model.specs.declared.choice.Choice.{Choice}
use Rattle.avr_model.specs.State.{State}
use Rattle.peripherals.specs.Spelling.{Setup}
use Rattle.peripherals.specs.Due.{Progress, choice_on, next_on, first_ready, or_else, is_ready}
use Rattle.peripherals.specs.declared.walk.Wiring.{Wiring}
use Rattle.peripherals.specs.declared.hook.Moment.{Moment}
use Rattle.avr_machine.specs.declared.menu.Menu.{Menu}
use Rattle.std.specs.Borrow.{Bor}
use Rattle.std.specs.Fn.{Shared}
use Rattle.peripherals.specs.Hooks.{Answering, ByHooks, stands_in}
use Rattle.peripherals.specs.Simulating.{Setting, setting, Asked}
use Rattle.avr_model.specs.declared.device.Device.{Device}
use Rattle.avr_model.specs.declared.assumption.Entry.{Entry}
use Rattle.avr_model.specs.Devices.{Image}
use Rattle.avr_model.specs.Vectors.{is_enabled}
use Rattle.peripherals.specs.declared.picking.Quiet.{Quiet}

-- a count for each source, at most the number of steps
pub record IsProgressKnown (setup : Setup) (p : Progress) : Type 0 where
  pub counts : length p.taken ≡ length setup.sources
  pub few : All (λ k. k ≤ p.step) p.taken

abbrev pub setting_of : {F G : Type 0} → Shared F (Bor Moment × (Bor Menu × Unit {0})) (Option ℕ) → Shared G (Bor Moment × (Bor Menu × Unit {0})) (Option ℕ) → Wiring F G → Setting
setting_of f g w = setting (ByHooks f g w.timers.now w.receivers.now) w.peripherals.now w.flash.now w.assumptions.now

-- the choice and the next progress follow an answer at this step
pub record IsChosen (x : Setting) (p : Progress) (m : State) (c : Choice) (after : Progress) : Type 0 where
  pub answer : Option ℕ
  pub asked : Asked x.answers p m answer
  pub choice : c ≡ choice_on x.on.setup p answer
  pub next : after ≡ next_on x.on.setup p answer

-- the rule of the peripherals alone: the first due timer whose interrupt is in the menu, or else the first such receiver
abbrev pub IsPicked : Setup → Answering
IsPicked setup step taken menu answer = answer ≡ or_else (first_ready setup (stands_in menu) true taken step) (first_ready setup (stands_in menu) false taken step)

-- before this step no source is due whose vector may be taken
abbrev pub IsQuiet : Setup → (ℕ → Bool) → List ℕ → ℕ → Type 0
IsQuiet setup may taken until = (timers : Bool) (step : ℕ) → step < until → first_ready setup may timers taken step ≡ None

-- what the rule of the peripherals alone chooses, with any flash and any assumptions
abbrev pub IsChosenAlone : Setup → Progress → State → Choice → Progress → Type 0
IsChosenAlone setup p m c after = (flash : Image) (A : List Entry) → IsChosen (setting (IsPicked setup) setup flash A) p m c after

-- before this step the source of this number isn't due, or its vector may not be taken
abbrev pub IsQuietSource : Setup → (ℕ → Bool) → List ℕ → ℕ → ℕ → Type 0
IsQuietSource setup may taken n until = (timers : Bool) (step : ℕ) → step < until → is_ready setup may timers taken step n ≡ false

-- before the step that was noted no source is due whose vector the noted enable bits enable
abbrev pub IsQuietAsNoted : Setup → Device → Quiet → List ℕ → Type 0
IsQuietAsNoted setup device noted taken = IsQuiet setup (is_enabled device noted.masks) taken noted.until
