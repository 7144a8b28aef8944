-- Runs that peripherals choose are runs of the machine.
use Rattle.std.proofs.Common.{zero, suc, ◌≡◌, ◌≢◌, refl, subst, ℕ, ◌<◌, Bool, true, false, if◌then◌else◌, inl, inr, ◌⊎◌, List, [], ◌∷◌, Option, Some, None, slice_get, slice_index_or, lit<}
use Rattle.std.specs.List.{AllByRecursion}
use Rattle.basics.specs.Booleans.{last_of_three}
use Rattle.std.proofs.lemmas.Option.{none-some}
use Rattle.witness_replay.proofs.Reached.{is_reset}
use Rattle.avr_machine.proofs.Choosing.{go_is_legal, either_is_legal}
use Rattle.avr_model.specs.declared.device.Device.{Device}
use Rattle.avr_model.specs.declared.choice.Choice.{Choice}
use Rattle.avr_model.specs.declared.choice.StepResult.TheVariants as said
use Rattle.avr_model.specs.declared.assumption.Entry.{Entry}
use Rattle.avr_model.specs.Devices.{Image, device_of}
use Rattle.avr_model.specs.Sites.{instruction_at}
use Rattle.avr_model.specs.State.{State}
use Rattle.avr_model.specs.Step.{Answer, Illegal, Undefined, Overflow, Flagged, Done, step, take, entering, may_take, result_of}
use Rattle.avr_model.specs.Run.{HasBytes, IsRun, RunsOn}
use Rattle.stimulus.specs.Driving.{choices_on}
use Rattle.peripherals.specs.declared.peripherals.SourceKind.{SourceKind}
use Rattle.peripherals.specs.declared.peripherals.SourceKind.TheVariants.{Timer, Bytes}
use Rattle.peripherals.specs.declared.peripherals.Source.{Source}
use Rattle.peripherals.specs.Spelling.{Setup, IsKind, IsSource, IsSetup}
use Rattle.peripherals.specs.Due.{Progress, begun, is_of, is_due, is_ready_source, is_ready, first_ready, or_else, choice_at, choice_on, answered, next_on, passed_at, input_after, taken_of}
use Rattle.peripherals.specs.Simulating.{board, picked, chosen, initial, simulated}
use Rattle.peripherals.specs.Laws.{SimulationsAreRuns, SimulationsAreBounded}
use Rattle.peripherals.proofs.Ready.{first_is}

-- ---- which choices aren't illegal

take_legal : (A : List Entry) (m : State) (v : ℕ) (b : Bool) → b ≡ true → result_of (if b then take A m (entering m v false) else Illegal) ≢ said.Illegal
take_legal A m v true is e = either_is_legal _ _ _ _ e
take_legal A m v false is e = cc

-- the source of the answer may be taken
abbrev MayTake : State → Option Source → Type 0
MayTake m None = Unit {0}
MayTake m (Some s) = may_take m s.vector false ≡ true

choice_legal : (image : Image) (A : List Entry) (m : State) (o : Option Source) (p : Progress) → MayTake m o → result_of (step image A m (choice_at o p)) ≢ said.Illegal
choice_legal image A m None p may = go_is_legal image A m (instruction_at image m.pc) p.input p.input
choice_legal image A m (Some s) p may = take_legal A m s.vector (may_take m s.vector false) may

-- ---- what is picked may be taken

ready_may : (m : State) (timers : Bool) (o : Option Source) (taken step : ℕ) → is_ready_source (λ v. may_take m v false) timers o taken step ≡ true → MayTake m o
ready_may m timers None taken step e = tt
ready_may m timers (Some s) taken step e = last_of_three (is_of timers s.kind) (is_due s taken step) (may_take m s.vector false) e

either : (a b : Option ℕ) (n : ℕ) → or_else a b ≡ Some n → (a ≡ Some n) ⊎ (b ≡ Some n)
either None b n e = inr e
either (Some k) b n e = inl e

first_may : (setup : Setup) (p : Progress) (m : State) (timers : Bool) (n : ℕ) → first_ready setup (λ v. may_take m v false) timers p.taken p.step ≡ Some n → MayTake m (slice_get setup.sources n)
first_may setup p m timers n e =
    ready_may m timers (slice_get setup.sources n) (slice_index_or p.taken n 0) p.step (first_is (is_ready setup (λ v. may_take m v false) timers p.taken p.step) 0 _ n e)

picked_may : (setup : Setup) (p : Progress) (m : State) (a : Option ℕ) → picked setup p m ≡ a → MayTake m (answered setup a)
picked_may setup p m None e = tt
picked_may setup p m (Some n) e = elim (either _ _ n e) [
  | inl h ↦ first_may setup p m true n h
  | inr h ↦ first_may setup p m false n h
]

-- what is picked is legal
pub legal_if_picked : (image : Image) (A : List Entry) (setup : Setup) (p : Progress) (m : State) (a : Option ℕ) → picked setup p m ≡ a → result_of (step image A m (choice_on setup p a)) ≢ said.Illegal
legal_if_picked image A setup p m a e = choice_legal image A m (answered setup a) p (picked_may setup p m a e)

-- ---- input bytes are bytes

bytes_at : (o : Option Source) (p : Progress) → p.input < 256 → HasBytes (choice_at o p)
bytes_at None p small = (small, small)
bytes_at (Some s) p small = tt

index_small : (bytes : List ℕ) (n : ℕ) → AllByRecursion (λ b. b < 256) bytes → slice_index_or bytes n 0 < 256
index_small [] n h = lit< tt
index_small (b ∷ bs) zero h = h.0
index_small (b ∷ bs) (suc n) h = index_small bs n h.1

input_small : (kind : SourceKind) (n input : ℕ) → IsKind kind → input < 256 → input_after kind n input < 256
input_small Timer n input h small = small
input_small (Bytes bytes) n input h small = index_small bytes n h.2

passed_small : (device : Device) (o : Option Source) (p : Progress) (n : ℕ) → ((s : Source) → o ≡ Some s → IsSource device s) → p.input < 256 → (passed_at o p n).input < 256
passed_small device None p n h small = small
passed_small device (Some s) p n h small = input_small s.kind (taken_of p n) p.input (h s refl).kind small

source_there : (device : Device) (sources : List Source) (n : ℕ) (s : Source) → AllByRecursion (IsSource device) sources → slice_get sources n ≡ Some s → IsSource device s
source_there device [] n s h e = absurd (none-some s e)
source_there device (x ∷ xs) zero s h e = let same : x ≡ s = cc in subst (IsSource device) same h.0
source_there device (x ∷ xs) (suc n) s h e = source_there device xs n s h.1 e

next_small : (device : Device) (setup : Setup) (p : Progress) (a : Option ℕ) → IsSetup device setup → p.input < 256 → (next_on setup p a).input < 256
next_small device setup p None h small = small
next_small device setup p (Some n) h small = passed_small device (slice_get setup.sources n) p n (λ s e. source_there device setup.sources n s h.all e) small

-- ---- the run

runs_on : (image : Image) (A : List Entry) (a : Answer) (rest : State → List Choice) → result_of a ≢ said.Illegal → ((s : State) → IsRun image A (rest s) s) → RunsOn a (choices_on a rest) (IsRun image A (choices_on a rest))
runs_on image A Illegal rest legal on = absurd (legal refl)
runs_on image A (Undefined pc) rest legal on = refl
runs_on image A (Overflow pc) rest legal on = refl
runs_on image A (Flagged flag) rest legal on = refl
runs_on image A (Done s) rest legal on = on s

chosen_runs : (device : Device) (image : Image) (A : List Entry) (setup : Setup) → IsSetup device setup → (n : ℕ) (p : Progress) (m : State) → p.input < 256 → IsRun image A (chosen (board setup image A) n p m) m
chosen_runs device image A setup h zero p m small = tt
chosen_runs device image A setup h (suc n) p m small =
    let a = picked setup p m in (
      bytes_at (answered setup a) p small,
      runs_on image A (step image A m (choice_on setup p a)) (λ s. chosen (board setup image A) n (next_on setup p a) s)
          (legal_if_picked image A setup p m a refl)
          (λ s. chosen_runs device image A setup h n (next_on setup p a) s (next_small device setup p a h small)),
    )

pub simulations_are_runs : SimulationsAreRuns
simulations_are_runs device image A setup n h = record {
  reset = is_reset (device_of image) setup.fill h.fill_is_byte;
  run = chosen_runs device image A setup h n (begun setup) (initial image setup) (lit< tt);
}

pub simulations_are_bounded : SimulationsAreBounded
simulations_are_bounded device image A setup n bound h bounded =
    let r = simulations_are_runs device image A setup n h in
    bounded.depth (initial image setup) (simulated image A setup n) r.reset r.run
