-- Runs of trials: their length, choices and depth, and the end of those that reach the bound.
use Rattle.std.proofs.Common.{arith, suc, zero, refl, sym, ap, subst, ◌≡◌, ◌∙◌, ◌≤◌, ◌<◌, ◌+◌, ℕ, nat_le, Bool, true, false, ◌&&◌, ◌||◌, ◌==◌, not, if◌then◌else◌, List, [], ◌∷◌, length, None}
use Rattle.std.proofs.lemmas.Bool.Decides.{nat_tests}
use Rattle.std.proofs.lemmas.List.Elements.{All-cons}
use Rattle.std.specs.List.{All}
use Rattle.std.specs.Option.{option_map}
use Rattle.basics.specs.Numbers.{most_from_start}
use Rattle.avr_model.specs.declared.choice.Choice.{Choice}
use Rattle.avr_model.specs.declared.choice.Choice.TheVariants.{Go, Take}
use Rattle.avr_model.specs.declared.choice.Stop.TheVariants as stop
use Rattle.avr_model.specs.declared.assumption.Entry.{Entry}
use Rattle.avr_model.specs.declared.device.Device.{Device}
use Rattle.avr_model.specs.Vectors.{last_vector, is_vector, is_open_vector, has_enable_place, is_enabled, watchdog}
use Rattle.avr_model.proofs.AllLaws.{devices_stay}
use Rattle.avr_model.specs.State.{State, i_flag, filled}
use Rattle.avr_model.specs.Step.{Answer, Illegal, Undefined, Overflow, Flagged, Done, step, may_take, take, entering}
use Rattle.avr_model.specs.Run.{Machine, IsRun, RunsOn, starting, moved_on, stop_of, stop_on, depth_of}
use Rattle.avr_model.specs.Devices.{Image, device_of, ramend}
use Rattle.stimulus.specs.Driving.{choices_by, choices_on, machine_after}
use Rattle.stimulus.specs.Laws.{DepthIsKept}
use Rattle.witness_replay.specs.Replay.{first_illegal, illegal_on}
use Rattle.witness_replay.specs.Tracing.{IsTaken}

-- ---- the choices of a run

first_of : (a b : Bool) → (a && b) ≡ true → a ≡ true
first_of true b h = refl
first_of false b h = h

first_of_four : (a b c d : Bool) → (a && b && c && d) ≡ true → a ≡ true
first_of_four true b c d h = refl
first_of_four false b c d h = cc

vector_of : (device : Device) (v : ℕ) → is_vector device v ≡ true → (2 ≤ v) × (v ≤ last_vector device)
vector_of device v is = (grind (arith, nat_tests, is), grind (arith, nat_tests, is))

taken_by : (m : State) (v : ℕ) → is_enabled m.device m.enables v ≡ true → (2 ≤ v) × (v ≤ last_vector m.device)
unfolding is_enabled
taken_by m v on = vector_of m.device v (first_of (is_vector m.device v) _ on)

module _ (image : Image) (A : List Entry) where
  -- the vectors of a run exist
  vector_is : (m : State) (v : ℕ) (clears b : Bool) (rest : List Choice) (on : State → Type 0) → may_take m v clears ≡ b
      → RunsOn (if b then take A m (entering m v clears) else Illegal) rest on → IsTaken m.device (Take v clears)
  vector_is m v clears true rest on is run = taken_by m v (first_of_four (is_enabled m.device m.enables v) (i_flag m) (not m.delay) (not clears || (v == watchdog m.device)) is)
  vector_is m v clears false rest on is run = absurd run

  choice_is : (m : State) (c : Choice) (rest : List Choice) → RunsOn (step image A m c) rest (IsRun image A rest) → IsTaken m.device c
  choice_is m (Go b1 b2) rest run = tt
  choice_is m (Take v clears) rest run = vector_is m v clears (may_take m v clears) rest (IsRun image A rest) refl run

  none_taken : (device : Device) → All (IsTaken device) []
  none_taken device k d within = absurd (omega arith)

  taken_on : (device : Device) (cs : List Choice) (a : Answer) → RunsOn a cs (IsRun image A cs) → ((s : State) → a ≡ Done s → IsRun image A cs s → All (IsTaken device) cs) → All (IsTaken device) cs
  taken_on device cs Illegal run on = absurd run
  taken_on device cs (Done s) run on = on s refl run
  taken_on device cs (Undefined pc) run on = subst (All (IsTaken device)) (sym run) (none_taken device)
  taken_on device cs (Overflow pc) run on = subst (All (IsTaken device)) (sym run) (none_taken device)
  taken_on device cs (Flagged flag) run on = subst (All (IsTaken device)) (sym run) (none_taken device)

  pub run_taken : (device : Device) (cs : List Choice) (m : State) → m.device ≡ device → IsRun image A cs m → All (IsTaken device) cs
  run_taken device [] m is run = none_taken device
  run_taken device (c ∷ cs) m is run =
      All-cons (IsTaken device) c cs (subst (λ (d : Device). IsTaken d c) is (choice_is m c cs run.1))
      (taken_on device cs (step image A m c) run.1 (λ s done r. run_taken device cs s (devices_stay.after_one image A m s c done ∙ is) r))

  -- and it meets no illegal choice
  legal_on : (cs : List Choice) (a : Answer) → RunsOn a cs (IsRun image A cs) → ((s : State) → IsRun image A cs s → first_illegal image A cs s ≡ None)
      → illegal_on a (first_illegal image A cs) ≡ None
  legal_on cs Illegal run on = absurd run
  legal_on cs (Done s) run on = ap (option_map (λ n. n + 1)) (on s run)
  legal_on cs (Undefined pc) run on = refl
  legal_on cs (Overflow pc) run on = refl
  legal_on cs (Flagged flag) run on = refl

  pub run_legal : (cs : List Choice) (m : State) → IsRun image A cs m → first_illegal image A cs m ≡ None
  run_legal [] m run = refl
  run_legal (c ∷ cs) m run = legal_on cs (step image A m c) run.1 (λ s r. run_legal cs s r)

-- ---- the choices of a driver

module _ {L : Type 0} (pick : L → State → Choice) (left : L → State → L) (image : Image) (A : List Entry) (target : ℕ) where
  abbrev By : ℕ → L → Machine → List Choice
  By n l m = choices_by pick left image A target n l m

  abbrev Next : ℕ → L → Machine → Answer → List Choice
  Next n l m a = choices_on a (λ s. By n (left l m.state) (moved_on m (Done s)))

  few_on : (n : ℕ) (l : L) (m : Machine) (a : Answer) → ((s : State) → length (By n (left l m.state) (moved_on m (Done s))) ≤ n) → length (Next n l m a) ≤ n
  few_on n l m Illegal on = omega arith
  few_on n l m (Done s) on = on s
  few_on n l m (Undefined pc) on = omega arith
  few_on n l m (Overflow pc) on = omega arith
  few_on n l m (Flagged flag) on = omega arith

  few_if : (n : ℕ) (c : Choice) (rest : List Choice) (b : Bool) → length rest ≤ n → length (if b then [] else c ∷ rest) ≤ suc n
  few_if n c rest true h = omega arith
  few_if n c rest false h = omega (arith, h)

  -- no more choices than steps
  pub few : (n : ℕ) (l : L) (m : Machine) → length (By n l m) ≤ n
  few zero l m = omega arith
  few (suc n) l m =
      few_if n (pick l m.state) (Next n l m (step image A m.state (pick l m.state))) (nat_le target m.depth)
      (few_on n l m (step image A m.state (pick l m.state)) (λ s. few n (left l m.state) (moved_on m (Done s))))

  abbrev Ends : List Choice → Machine → Type 0
  Ends cs m = target ≤ (machine_after image A cs m).depth → stop_of image A cs m.state ≡ stop.End

  ends_on : (n : ℕ) (l : L) (m : Machine) (a : Answer) → m.depth < target → ((s : State) → Ends (By n (left l m.state) (moved_on m (Done s))) (moved_on m (Done s)))
      → target ≤ (machine_after image A (Next n l m a) (moved_on m a)).depth → stop_on a (stop_of image A (Next n l m a)) ≡ stop.End
  ends_on n l m Illegal low on high = refl
  ends_on n l m (Done s) low on high = on s high
  ends_on n l m (Undefined pc) low on high = absurd (omega (arith, low, high))
  ends_on n l m (Overflow pc) low on high = absurd (omega (arith, low, high))
  ends_on n l m (Flagged flag) low on high = absurd (omega (arith, low, high))

  below : (a b : ℕ) → nat_le a b ≡ false → b < a
  below a b h = grind (arith, nat_tests, h)

  ends_if : (n : ℕ) (l : L) (m : Machine) (c : Choice) (rest : List Choice) (b : Bool) → (b ≡ false → Ends (c ∷ rest) m) → Ends (if b then [] else c ∷ rest) m
  ends_if n l m c rest true on high = refl
  ends_if n l m c rest false on high = on refl high

  -- if the depth reaches the target, there is no stop
  pub ends_well : (n : ℕ) (l : L) (m : Machine) → Ends (By n l m) m
  ends_well zero l m high = refl
  ends_well (suc n) l m high =
      ends_if n l m (pick l m.state) (Next n l m (step image A m.state (pick l m.state))) (nat_le target m.depth)
      (λ low. ends_on n l m (step image A m.state (pick l m.state)) (below target m.depth low) (λ s. ends_well n (left l m.state) (moved_on m (Done s))))
      high

-- ---- the depth of a run from reset

-- it is that of the machine after the run
pub depth_from_reset : DepthIsKept → (image : Image) (A : List Entry) (fill : ℕ) (m : Machine) (cs : List Choice) (end : Machine) (depth : ℕ)
    → m ≡ starting (filled (device_of image) fill) → IsRun image A cs m.state → end ≡ machine_after image A cs m → depth ≡ end.depth
    → depth ≡ depth_of image A cs (filled (device_of image) fill)
depth_from_reset law image A fill m cs end depth start run after is =
    is
    ∙ ap (λ (x : Machine). x.depth) after
    ∙ ap (λ (x : Machine). (machine_after image A cs x).depth) start
    ∙ law image A cs (starting (filled (device_of image) fill)) (omega arith) (subst (λ (x : Machine). IsRun image A cs x.state) start run)
    ∙ most_from_start (ramend (device_of image)) (depth_of image A cs (filled (device_of image) fill))
