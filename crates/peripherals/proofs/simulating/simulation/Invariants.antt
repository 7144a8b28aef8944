use Rattle.std.proofs.Common.{◌≡◌, length, List}
use Rattle.avr_model.specs.declared.choice.Choice.{Choice}
use Rattle.avr_model.specs.Vectors.{is_enabled}
use Rattle.peripherals.specs.Due.{begun}
use Rattle.peripherals.specs.Simulating.{setting}
use Rattle.peripherals.specs.Traces.{Leads}
use Rattle.peripherals.specs.Midway.{IsProgressKnown, IsPicked, IsQuiet}
use Rattle.peripherals.proofs.simulating.simulation.Given as goal

abbrev pub invariant-loop-step : goal.invariant-loop-step
invariant-loop-step l = record {
  known : IsProgressKnown l.peripherals l.progress;
  at : l.progress.step ≡ l.step;
  quiet : IsQuiet l.peripherals (is_enabled l.machine.state.device l.quiet.masks) l.progress.taken l.quiet.until;
  led : (cs : List Choice) × Leads (setting (IsPicked l.peripherals) l.peripherals l.flash l.assumptions) l.steps (begun l.peripherals) l.initial.machine cs l.progress l.machine
      × (length cs ≡ l.step);
}
