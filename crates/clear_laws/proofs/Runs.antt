-- A run from reset that ends flagged ends at the word of a node that isn't clear.
use Rattle.std.proofs.Common.{◌≡◌, refl, ap, ◌∙◌, ℕ, zero, suc, ◌+◌, ◌-◌, ◌&&◌, ◌⊎◌, ⊎_elim, inl, inr, Bool, true, false, List, [], ◌∷◌, replicate, nat_lt, slice_index_or, arith}
use Rattle.avr_model.specs.Devices.{size_of, device_of}
use Rattle.avr_model.specs.declared.choice.Choice.{Choice}
use Rattle.avr_model.specs.declared.choice.Flag.{Flag}
use Rattle.avr_model.specs.declared.choice.Stop.TheVariants as stop
use Rattle.avr_model.specs.State.{State, IsReset, live_in}
use Rattle.avr_model.specs.Step.{Answer, Illegal, Undefined, Overflow, Flagged, Done, step}
use Rattle.avr_model.specs.Run.{IsRun, RunsOn, stop_of, stop_on}
use Rattle.local_rules.specs.Machine.{AreWords}
use Rattle.edge_rules.specs.Families.{RankedFamily, IsSoundFamily}
use Rattle.edge_rules.specs.Frames.{Frame, Runs, IsFine}
use Rattle.frame_laws.proofs.AllLaws.{frames_start, frames_step}
use Rattle.clear_laws.specs.Clear.{EndsByTake}
use Rattle.clear_laws.specs.Causes.{MayFlag}
use Rattle.clear_laws.specs.StepLaws.{FlaggedRunsAreTold}
use Rattle.clear_laws.proofs.Kept.{Holding, step_holds}
use Rattle.clear_laws.proofs.Caused.{caused_here, may_be_flagged}
use Rattle.local_rules.specs.Site.{Task}

-- ---- reset

none_at : (n i : ℕ) → slice_index_or (replicate n false) i false ≡ false
none_at zero i = refl
none_at (suc n) zero = refl
none_at (suc n) (suc i) = none_at n i

and_second : (a b : Bool) → b ≡ false → (a && b) ≡ true → ⊥
and_second a b h e = grind arith

none_live : (n below : ℕ) (live : List Bool) (a : ℕ) → live ≡ replicate n false → live_in below live a ≡ true → ⊥
unfolding live_in
none_live n below live a e h =
    and_second (nat_lt below a) (slice_index_or live (a - (below + 1)) false)
    (ap (λ (l : List Bool). slice_index_or l (a - (below + 1)) false) e ∙ none_at n (a - (below + 1))) h

flag_same : (p q : Flag) → stop.Flag p ≡ stop.Flag q → p ≡ q
flag_same p q e = cc

module _ (task : Task) (f : RankedFamily) (sized : AreWords task.flash) (sound : IsSoundFamily task f) (flag : Flag) where
  -- the goal of a run from a state on
  abbrev Told : List Choice → State → Type 0
  Told cs m = (g : Frame) (gs : List Frame) → Runs task f m g gs → Holding task f m.memory g gs → IsRun task.flash task.assumptions cs m → stop_of task.flash task.assumptions cs m ≡ stop.Flag flag
      → MayFlag task f flag ⊎ EndsByTake task f.nodes m cs

  -- one more choice before a take
  later : (c : Choice) (cs : List Choice) (m n : State) → step task.flash task.assumptions m c ≡ Done n → EndsByTake task f.nodes n cs → EndsByTake task f.nodes m (c ∷ cs)
  later c cs m n is ends =
      record {
        before = c ∷ ends.before;
        vector = ends.vector;
        clears = ends.clears;
        rest = ends.rest;
        are = ap (λ (rest : List Choice). c ∷ rest) ends.are;
        passes = ap (λ (a : Answer). stop_on a (stop_of task.flash task.assumptions ends.before)) is ∙ ends.passes;
        taken = ends.taken;
      }

  -- a flag at a node
  at_node : (c : Choice) (cs : List Choice) (m : State) (g : Frame) (gs : List Frame) (runs : Runs task f m g gs) (holds : Holding task f m.memory g gs) → step task.flash task.assumptions m c ≡ Flagged flag
      → MayFlag task f flag ⊎ EndsByTake task f.nodes m (c ∷ cs)
  at_node c cs m g gs runs holds is =
      ⊎_elim
      (λ caused. inl caused)
      (λ taken. inr (record {
        before = [];
        vector = taken.vector;
        clears = taken.clears;
        rest = cs;
        are = ap (λ (x : Choice). x ∷ cs) taken.is;
        passes = refl;
        taken = record { never = taken.never; node = g.node; present = runs.present; i = taken.i; delay = taken.delay; vector = taken.vector; enabled = taken.enabled; is = refl };
      }))
      (caused_here task f sound m g gs runs holds c flag is)

  by_answer : (c : Choice) (cs : List Choice) (m : State) (g : Frame) (gs : List Frame) → Runs task f m g gs → Holding task f m.memory g gs → ((n : State) → Told cs n)
      → (a : Answer) → step task.flash task.assumptions m c ≡ a → IsFine task f c g gs a → RunsOn a cs (IsRun task.flash task.assumptions cs) → stop_on a (stop_of task.flash task.assumptions cs) ≡ stop.Flag flag
      → MayFlag task f flag ⊎ EndsByTake task f.nodes m (c ∷ cs)
  by_answer c cs m g gs runs holds on Illegal is fine run ends = absurd run
  by_answer c cs m g gs runs holds on (Undefined pc) is fine run ends = absurd fine
  by_answer c cs m g gs runs holds on (Overflow pc) is fine run ends = absurd fine
  by_answer c cs m g gs runs holds on (Flagged why) is fine run ends = at_node c cs m g gs runs holds (is ∙ ap Flagged (flag_same why flag ends))
  by_answer c cs m g gs runs holds on (Done n) is fine run ends =
      ⊎_elim (λ flagged. inl flagged) (λ taken. inr (later c cs m n is taken))
      (on n fine.0 fine.1 fine.2 (step_holds task f sound m n g gs runs holds c fine.0 fine.1 is fine.2 fine.3) run ends)

  told_from : (cs : List Choice) (m : State) → Told cs m
  told_from [] m g gs runs holds run ends = absurd (cc)
  told_from (c ∷ cs) m g gs runs holds run ends =
      by_answer c cs m g gs runs holds (told_from cs) (step task.flash task.assumptions m c) refl (frames_step.fine task f m g gs c sized sound runs run.0) run.1 ends

  told : (m : State) (choices : List Choice) → IsReset (device_of task.flash) m → IsRun task.flash task.assumptions choices m → stop_of task.flash task.assumptions choices m ≡ stop.Flag flag
      → MayFlag task f flag ⊎ EndsByTake task f.nodes m choices
  told m choices reset run ends =
      let start = frames_start.starts task f m sound.formed sound.reset reset in
      told_from choices m _ [] start.runs
      record {
        above = λ a live. absurd (none_live (size_of (device_of task.flash)) m.memory.below m.memory.live a reset.none_live live);
        depth = omega arith;
        running = λ d lt live. absurd (omega (arith, lt));
        left = tt;
      }
      run ends

pub flagged_runs_are_told : FlaggedRunsAreTold
flagged_runs_are_told =
    record {
      caused = λ task f m choices flag sized sound reset run ends. told task f sized sound flag m choices reset run ends;
      told = λ task f m choices flag sized sound reset run ends.
          ⊎_elim (λ c. inl (may_be_flagged task f flag c)) (λ t. inr t) (told task f sized sound flag m choices reset run ends);
      never = λ task f sized sound clear free m choices flag reset run ends.
          ⊎_elim (λ c. let at = may_be_flagged task f flag c in at.unclear (clear at.node at.present))
          (λ (at : EndsByTake task f.nodes m choices). free _ at.taken) (told task f sized sound flag m choices reset run ends);
    }
