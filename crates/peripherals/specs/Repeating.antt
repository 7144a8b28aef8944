-- Runs of equal choices.
use Rattle.std.specs.Prelude.{List, replicate}
use Rattle.std.specs.List.{flat_map}
use Rattle.avr_model.specs.declared.choice.Choice.{Choice}
use Rattle.peripherals.specs.declared.trace.Repeated.{Repeated}

-- the choices of these runs
abbrev pub choices_of : List Repeated → List Choice
choices_of runs = flat_map (λ r. replicate r.count r.choice) runs
