-- Traces of runs that hooks choose.
use Rattle.std.specs.Prelude.{ℕ, ◌≡◌, ◌-◌, ◌<◌, List, [], ◌∷◌, Option}
use Rattle.avr_model.specs.declared.choice.Choice.{Choice}
use Rattle.avr_model.specs.State.{State}
use Rattle.avr_model.specs.Step.{Done, step}
use Rattle.avr_model.specs.Run.{Machine, IsRun, HasBytes, moved_on, stop_of}
use Rattle.stimulus.specs.Driving.{machine_after}
use Rattle.peripherals.specs.declared.trace.PeripheralTrace.{PeripheralTrace}
use Rattle.peripherals.specs.Due.{Progress, begun, choice_on, next_on}
use Rattle.peripherals.specs.Simulating.{Setting, Asked, Chooses}

module _ (x : Setting) where
  -- The trace of a run of n choices: its choices, which are a run of the machine from its state, the depth at the end, and the stop, if
  -- there was one.
  pub record IsTrace (n : ℕ) (m : Machine) (trace : PeripheralTrace) (end : Machine) : Type 0 where
    pub chooses : Chooses x n (begun x.on.setup) m.state trace.choices
    pub run : IsRun x.on.flash x.on.assumptions trace.choices m.state
    pub machine : end ≡ machine_after x.on.flash x.on.assumptions trace.choices m
    pub depth : trace.depth ≡ end.depth
    pub stop : trace.stop ≡ stop_of x.on.flash x.on.assumptions trace.choices m.state

  -- a prefix of such a run, in which each choice is done, with the progress and the machine before and after it
  abbrev pub Leads : ℕ → Progress → Machine → List Choice → Progress → Machine → Type 0
  Leads n p m [] last end = (last ≡ p) × (end ≡ m)
  Leads n p m (c ∷ cs) last end =
      (0 < n) × HasBytes c × (answer : Option ℕ) × Asked x.answers p m.state answer × (c ≡ choice_on x.on.setup p answer)
      × (s : State) × (step x.on.flash x.on.assumptions m.state c ≡ Done s) × Leads (n - 1) (next_on x.on.setup p answer) (moved_on m (Done s)) cs last end

  -- the machine is what a prefix leaves
  pub record Halts (n : ℕ) (m end : Machine) : Type 0 where
    pub choices : List Choice
    pub last : Progress
    pub leads : Leads n (begun x.on.setup) m choices last end
