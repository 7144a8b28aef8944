use Rattle.std.proofs.Common.{◌≡◌, length, List}
use Rattle.std.specs.Fn.{CalledAt}
use Rattle.avr_model.specs.declared.choice.Choice.{Choice}
use Rattle.stimulus.specs.Steady.{IsSteady}
use Rattle.stimulus.specs.Driving.{Begins}
use Rattle.stimulus.proofs.driver.Driver.run.Given as goal

abbrev pub invariant-loop : goal.invariant-loop
invariant-loop g l = IsSteady g.F.FnMut l.self × ((choices : List Choice) × Begins (CalledAt g.F.FnMut) l.firmware.flash.now l.firmware.assumptions.now l.until.target l.until.steps l.fn.self l.fn.machine choices l.self l.machine × (length choices ≡ l.counter))
