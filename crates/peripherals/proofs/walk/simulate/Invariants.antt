use Rattle.std.proofs.Common.{◌≡◌, length}
use Rattle.peripherals.specs.Due.{begun}
use Rattle.peripherals.specs.Traces.{Leads}
use Rattle.peripherals.specs.Midway.{setting_of, IsProgressKnown}
use Rattle.peripherals.proofs.walk.simulate.Given as goal

abbrev pub invariant-loop-step : goal.invariant-loop-step
invariant-loop-step g l = record {
  known : IsProgressKnown l.wiring.peripherals.now l.progress;
  at : l.progress.step ≡ l.step;
  led : Leads (setting_of g.F.Fn g.G.Fn l.wiring) l.steps (begun l.wiring.peripherals.now) l.fn.machine l.choices l.progress l.machine;
  count : length l.choices ≡ l.step;
}
