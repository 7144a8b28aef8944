-- The run that peripherals choose by themselves is unique.
use Rattle.std.proofs.Common.{arith, suc, zero, ◌≡◌, ◌≢◌, ◌≤◌, refl, sym, ap, subst, ◌∙◌, ℕ, ◌-◌, ◌&&◌, ◌||◌, ◌==◌, not, length, Bool, true, false, List, [], ◌∷◌, Option, slice_get}
use Rattle.basics.specs.Numbers.{most_from_start}
use Rattle.witness_replay.specs.Replay.{Report, steps_of}
use Rattle.avr_model.specs.declared.device.Device.{Device}
use Rattle.avr_model.specs.declared.choice.Choice.{Choice}
use Rattle.avr_model.specs.declared.choice.Stop.{Stop}
use Rattle.avr_model.specs.declared.choice.StepResult.TheVariants as said
use Rattle.avr_model.specs.declared.assumption.Entry.{Entry}
use Rattle.avr_model.specs.Devices.{Image, device_of, ramend}
use Rattle.avr_model.specs.Vectors.{watchdog}
use Rattle.avr_machine.specs.Menu.{has_vector}
use Rattle.avr_model.specs.State.{State, IsReset, filled}
use Rattle.avr_model.specs.Step.{Answer, Illegal, Undefined, Overflow, Flagged, Done, step, may_take, result_of}
use Rattle.avr_model.specs.Run.{Machine, IsRun, Bounded, starting, depth_of, stop_of}
use Rattle.avr_machine.specs.declared.menu.Menu.{Menu}
use Rattle.stimulus.specs.Driving.{IsMenuOf, GoesOn, choices_on, machine_after}
use Rattle.stimulus.specs.Laws.{DepthIsKept}
use Rattle.peripherals.specs.Spelling.{Setup}
use Rattle.peripherals.specs.Due.{Progress, begun, choice_on, next_on, first_ready, or_else, is_ready}
use Rattle.peripherals.specs.Hooks.{stands_in}
use Rattle.peripherals.specs.Simulating.{board, setting, Asked, Chooses, picked, chosen, initial, simulation_of}
use Rattle.peripherals.specs.Midway.{IsChosen, IsPicked}
use Rattle.peripherals.proofs.Ready.{first_same, ready_same}
use Rattle.peripherals.proofs.Runs.{legal_if_picked}
use Rattle.peripherals.proofs.Leads.{Whole}

-- ---- a menu's vectors are its state's

regrouped : (b watchdog : Bool) → (b && (not false || watchdog)) ≡ b
regrouped true watchdog = refl
regrouped false watchdog = refl

may_as : (menu : Menu) (m : State) → IsMenuOf menu m → (v : ℕ) → stands_in menu v ≡ may_take m v false
may_as menu m is v = regrouped (has_vector menu v) (v == watchdog menu.device) ∙ is.takes v

first_as : (setup : Setup) (menu : Menu) (m : State) (timers : Bool) (taken : List ℕ) (now : ℕ) → IsMenuOf menu m → first_ready setup (stands_in menu) timers taken now ≡ first_ready setup (λ v. may_take m v false) timers taken now
first_as setup menu m timers taken now is =
    first_same (is_ready setup (stands_in menu) timers taken now) (is_ready setup (λ v. may_take m v false) timers taken now) 0 (length setup.sources)
    (λ k. ready_same (stands_in menu) (λ v. may_take m v false) timers (slice_get setup.sources k) _ now (may_as menu m is))

-- the answer of the rule is the source that is picked
asked_picks : (setup : Setup) (p : Progress) (m : State) (answer : Option ℕ) → Asked (IsPicked setup) p m answer → answer ≡ picked setup p m
asked_picks setup p m answer h =
    h.2
    ∙ ap (λ (o : Option ℕ). or_else o (first_ready setup (stands_in h.0) false p.taken p.step)) (first_as setup h.0 m true p.taken p.step h.1)
    ∙ ap (λ (o : Option ℕ). or_else (first_ready setup (λ v. may_take m v false) true p.taken p.step) o) (first_as setup h.0 m false p.taken p.step h.1)

-- what is chosen by the rule is legal
pub chosen_is_legal : (image : Image) (A : List Entry) (setup : Setup) (p : Progress) (m : State) (c : Choice) (next : Progress) → IsChosen (setting (IsPicked setup) setup image A) p m c next → result_of (step image A m c) ≢ said.Illegal
chosen_is_legal image A setup p m c next h =
    subst (λ (x : Choice). result_of (step image A m x) ≢ said.Illegal) (sym h.choice) (legal_if_picked image A setup p m h.answer (sym (asked_picks setup p m h.answer h.asked)))

-- ---- the choices

module _ (setup : Setup) (image : Image) (A : List Entry) where
  abbrev By : ℕ → Progress → State → List Choice
  By n p m = chosen (board setup image A) n p m

  abbrev Rest : ℕ → Progress → Answer → List Choice
  Rest n p a = choices_on a (λ s. By n p s)

  abbrev Follows : ℕ → Progress → State → List Choice → Type 0
  Follows n p m cs = Chooses (setting (IsPicked setup) setup image A) n p m cs

  tail : (n : ℕ) (p : Progress) (cs : List Choice) (a : Answer) → ((s : State) → Follows n p s cs → cs ≡ By n p s) → GoesOn a (λ s. Follows (suc n - 1) p s cs) (cs ≡ []) → cs ≡ Rest n p a
  tail n p cs Illegal ih h = absurd h
  tail n p cs (Undefined pc) ih h = h
  tail n p cs (Overflow pc) ih h = h
  tail n p cs (Flagged flag) ih h = h
  tail n p cs (Done s) ih h = let same : suc n - 1 ≡ n = omega arith in ih s (subst (λ (k : ℕ). Follows k p s cs) same h)

  -- they are those of the definition by recursion
  determined : (n : ℕ) (p : Progress) (m : State) (cs : List Choice) → Follows n p m cs → cs ≡ By n p m
  determined zero p m [] h = refl
  determined zero p m (c ∷ cs) h = absurd (omega (arith, h.0))
  determined (suc n) p m [] h = absurd (omega (arith, h))
  determined (suc n) p m (c ∷ cs) h =
      let e = asked_picks setup p m h.1 h.2 in
      let more = tail n (next_on setup p h.1) cs (step image A m c) (λ s k. determined n (next_on setup p h.1) s cs k) h.4 in
      ap (λ (xs : List Choice). c ∷ xs) more
      ∙ ap (λ (x : Choice). x ∷ Rest n (next_on setup p h.1) (step image A m x)) h.3
      ∙ ap (λ (a : Option ℕ). choice_on setup p a ∷ Rest n (next_on setup p a) (step image A m (choice_on setup p a))) e

-- ---- the depth

-- from reset the machine's depth is that of the run
depth_from_reset : DepthIsKept → (image : Image) (A : List Entry) (fill : ℕ) (cs : List Choice) (end : Machine) → IsRun image A cs (filled (device_of image) fill) → end ≡ machine_after image A cs (starting (filled (device_of image) fill))
    → end.depth ≡ depth_of image A cs (filled (device_of image) fill)
depth_from_reset law image A fill cs end run after =
    ap (λ (x : Machine). x.depth) after ∙ law image A cs (starting (filled (device_of image) fill)) (omega arith) run ∙ most_from_start (ramend (device_of image)) (depth_of image A cs (filled (device_of image) fill))

-- ---- the report

-- the machine is that of the setup after reset
pub record IsStarted (image : Image) (setup : Setup) (m : Machine) : Type 0 where
  pub is : m ≡ starting (initial image setup)
  pub reset : IsReset (device_of image) (initial image setup)

pub started : (image : Image) (setup : Setup) (m : Machine) (device : Device) (fill : ℕ) → m ≡ starting (filled device fill) → IsReset device m.state → device ≡ device_of image → fill ≡ setup.fill → IsStarted image setup m
started image setup m device fill is reset of byte =
    let all : m ≡ starting (initial image setup) = is ∙ ap (λ (d : Device). starting (filled d fill)) of ∙ ap (λ (b : ℕ). starting (filled (device_of image) b)) byte in
    record { is = all; reset = subst (λ (d : Device). IsReset d (initial image setup)) of (subst (λ (x : Machine). IsReset device x.state) all reset) }

-- the report is that of the run of the peripherals alone, and a bound of all runs bounds it
pub record IsReport (image : Image) (A : List Entry) (setup : Setup) (n : ℕ) (report : Report) : Type 0 where
  pub told : report ≡ simulation_of image A setup n
  pub bounded : (bound : ℕ) → Bounded image A bound → report.depth ≤ bound

pub reported : DepthIsKept → (setup : Setup) (image : Image) (A : List Entry) (n : ℕ) (m : Machine) (cs : List Choice) (end : Machine) (steps depth : ℕ) (stop : Stop) → IsStarted image setup m
    → Whole (IsPicked setup) setup image A n (begun setup) m cs end steps stop → depth ≡ end.depth → IsReport image A setup n (record { steps = steps; depth = depth; stop = stop })
reported law setup image A n m cs end steps depth stop start h is =
    let P : Machine → Type 0 = λ x. Whole (IsPicked setup) setup image A n (begun setup) x cs end steps stop in
    let v = subst P start.is h in
    let deep : depth ≡ depth_of image A cs (initial image setup) = is ∙ depth_from_reset law image A setup.fill cs end v.run v.machine in
    let report : List Choice → Report = λ xs. record { steps = steps_of image A xs (initial image setup); depth = depth_of image A xs (initial image setup); stop = stop_of image A xs (initial image setup) } in
    let here : ◌≡◌ {A = Report} (record { steps = steps; depth = depth; stop = stop }) (report cs) = rw (v.steps_are, deep, v.stop_is) refl in
    record {
      told = here ∙ ap report (determined setup image A n (begun setup) (initial image setup) cs v.chooses);
      bounded = λ bound holds. rw deep (holds.depth (initial image setup) cs start.reset v.run);
    }
