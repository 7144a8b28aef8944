-- Runs that peripherals choose. Source: own.
use Rattle.std.specs.Prelude.{ℕ, ◌-◌, ◌<◌, ◌≡◌, zero, suc, false, List, [], ◌∷◌, Option}
use Rattle.avr_model.specs.declared.choice.Choice.{Choice}
use Rattle.avr_model.specs.declared.assumption.Entry.{Entry}
use Rattle.avr_model.specs.Devices.{Image, device_of}
use Rattle.avr_model.specs.State.{State, filled}
use Rattle.avr_model.specs.Step.{step, may_take}
use Rattle.avr_model.specs.Run.{depth_of, stop_of}
use Rattle.avr_machine.specs.declared.menu.Menu.{Menu}
use Rattle.stimulus.specs.Driving.{IsMenuOf, GoesOn, choices_on}
use Rattle.witness_replay.specs.declared.replaying.ReplayReport.{ReplayReport}
use Rattle.witness_replay.specs.Replay.{Report, steps_of}
use Rattle.peripherals.specs.Spelling.{Setup}
use Rattle.peripherals.specs.Due.{Progress, begun, choice_on, next_on, pick}
use Rattle.peripherals.specs.Hooks.{Answering}

-- peripherals connected to a firmware's machine, under assumptions
pub record Board : Type 0 where
  pub setup : Setup
  pub flash : Image
  pub assumptions : List Entry

abbrev pub board : Setup → Image → List Entry → Board
board setup image A = record { setup = setup; flash = image; assumptions = A }

-- a board, and the rule by which questions at each step are answered
pub record Setting : Type 1 where
  pub answers : Answering
  pub on : Board

abbrev pub setting : Answering → Setup → Image → List Entry → Setting
setting answers setup image A = record { answers = answers; on = board setup image A }

-- asked with the steps so far, the takes so far and the menu of the state, the rule may answer this
abbrev pub Asked : Answering → Progress → State → Option ℕ → Type 0
Asked answers p m answer = (menu : Menu) × IsMenuOf menu m × answers p.step p.taken menu answer

-- The choices follow the answer at each step. They end at the first stop, else after exactly n choices.
abbrev pub Chooses : Setting → ℕ → Progress → State → List Choice → Type 0
Chooses x n p m [] = n ≡ 0
Chooses x n p m (c ∷ cs) =
    (0 < n) × (answer : Option ℕ) × Asked x.answers p m answer × (c ≡ choice_on x.on.setup p answer)
    × GoesOn (step x.on.flash x.on.assumptions m c) (λ s. Chooses x (n - 1) (next_on x.on.setup p answer) s cs) (cs ≡ [])

-- ---- the run of the peripherals alone

abbrev pub picked : Setup → Progress → State → Option ℕ
picked setup p m = pick setup (λ v. may_take m v false) p

-- the choices from a state on: at each step the interrupt of the first due timer that may be taken, else of the first such receiver, else
-- an instruction with the input byte; they end at the first stop, else after n choices
abbrev pub chosen : Board → ℕ → Progress → State → List Choice
chosen x zero p m = []
chosen x (suc n) p m =
    choice_on x.setup p (picked x.setup p m)
    ∷ choices_on (step x.flash x.assumptions m (choice_on x.setup p (picked x.setup p m))) (λ s. chosen x n (next_on x.setup p (picked x.setup p m)) s)

-- the initial state: after reset with the fill byte everywhere, on the image's device
abbrev pub initial : Image → Setup → State
initial image setup = filled (device_of image) setup.fill

-- the choices of the whole run
abbrev pub simulated : Image → List Entry → Setup → ℕ → List Choice
simulated image A setup n = chosen (board setup image A) n (begun setup) (initial image setup)

abbrev pub report_of : ReplayReport → Report
report_of r = record { steps = r.steps; depth = r.depth; stop = r.stop }

-- the steps, depth and stop of the run
abbrev pub simulation_of : Image → List Entry → Setup → ℕ → Report
simulation_of image A setup n =
    record {
      steps = steps_of image A (simulated image A setup n) (initial image setup);
      depth = depth_of image A (simulated image A setup n) (initial image setup);
      stop = stop_of image A (simulated image A setup n) (initial image setup);
    }
