-- A run from reset is no deeper than a bound of all runs.
use Rattle.std.proofs.Common.{arith, ap, refl, sym, subst, ◌∙◌, ◌≡◌, ℕ, ◌≤◌, ◌<◌, max, List, [], ◌∷◌, Ok, None, IsTrue}
use Rattle.std.specs.Borrow.{Bor}
use Rattle.std.specs.Fn.{Mut, Called}
use Rattle.avr_model.specs.declared.choice.Choice.{Choice}
use Rattle.avr_model.specs.declared.choice.Choice.TheVariants.{Go}
use Rattle.avr_model.specs.declared.assumption.Entry.{Entry}
use Rattle.avr_model.specs.declared.device.Device.{Device}
use Rattle.avr_model.specs.Devices.{Image, device_of}
use Rattle.avr_model.specs.State.{IsReset, filled, depth_of_state}
use Rattle.avr_model.specs.Run.{Machine, IsRun, Bounded, starting, depth_of}
use Rattle.avr_machine.specs.declared.menu.Menu.{Menu}
use Rattle.avr_machine.specs.Menu.{has_choice}
use Rattle.stimulus.specs.Driving.{machine_after}
use Rattle.stimulus.specs.Laws.{DepthIsKept}
use Rattle.stimulus.specs.Steady.{IsSteadyAt, IsSteady}
use Rattle.witness_replay.specs.declared.replaying.ReplayReport.{ReplayReport}
use Rattle.witness_replay.specs.Spelling.{Plan, AreRuns, most_choices}
use Rattle.witness_replay.specs.Replay.{replay_of, told}
use Rattle.witness_replay.specs.Runs.{ReplaysAreRuns}

-- a closure that always answers the same `Go` is steady
module _ {F : Type 0} (g : Mut F (Bor Menu × Unit {0}) Choice) (asks : (f : F) (a : Bor Menu × Unit {0}) → g.pre f a) (goes : (f : F) (a : Bor Menu × Unit {0}) (c : Choice) (next : F) → Called g f a c next → c ≡ Go 0 0) where
  at_all : (menus : List (Bor Menu × Unit {0})) (f : F) → IsSteadyAt g f menus
  at_all [] f = tt
  at_all (a ∷ rest) f = (asks f a, λ c next called. (subst (λ x. IsTrue (has_choice a.0.now x)) (sym (goes f a c next called)) refl, at_all rest next))

  pub steady : (f : F) → IsSteady g f
  steady f = record { at = λ menus. at_all menus f }

below : (depth a b bound : ℕ) → depth ≡ max a b → a ≤ bound → b ≤ bound → depth ≤ bound
below depth a b bound is first second = grind (arith, is, first, second)

pub trial_bounded : DepthIsKept → (image : Image) (A : List Entry) (m end : Machine) (cs : List Choice) (device : Device) (depth : ℕ)
    → m ≡ starting (filled device 0) → IsReset device m.state → device ≡ device_of image → IsRun image A cs m.state → end ≡ machine_after image A cs m → depth ≡ end.depth
    → (bound : ℕ) → Bounded image A bound → depth ≤ bound
trial_bounded law image A m end cs device depth start reset is run after ends bound h =
    below depth m.depth (depth_of image A cs m.state) bound
    (ends ∙ ap (λ (x : Machine). x.depth) after ∙ law image A cs m (subst (λ (x : Machine). depth_of_state x.state ≤ x.depth) (sym start) (omega arith)) run)
    (subst (λ (x : Machine). x.depth ≤ bound) (sym start) (omega arith))
    (h.depth m.state cs (subst (λ d. IsReset d m.state) is reset) run)

pub replay_bounded : ReplaysAreRuns → (device : Device) (image : Image) (A : List Entry) (plan : Plan) (r : ReplayReport) → plan.fill < 256 → AreRuns device None most_choices plan.runs
    → told (Ok r) ≡ replay_of image A plan → (bound : ℕ) → Bounded image A bound → r.depth ≤ bound
replay_bounded law device image A plan r small fit is bound h =
    let runs = law device image A plan (record { steps = r.steps; depth = r.depth; stop = r.stop }) (record { fill_is_byte = small; runs_fit = fit }) (sym is) in
    subst (λ n. n ≤ bound) (sym runs.depth) (h.depth _ runs.choices runs.reset runs.run)
