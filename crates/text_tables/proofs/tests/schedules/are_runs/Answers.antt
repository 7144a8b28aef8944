use Rattle.std.proofs.Common.{List, [], ◌∷◌, true, arith}
use Rattle.std.specs.List.{AllByRecursion}
use Rattle.std.proofs.lemmas.List.Elements.{All-from_recursion}
use Rattle.avr_model.specs.declared.choice.Choice.{Choice}
use Rattle.avr_model.specs.declared.choice.Choice.TheVariants.{Go, Take}
use Rattle.avr_model.specs.Devices.{M328, device_row}
use Rattle.witness_replay.specs.Tracing.{IsTaken}
use Rattle.text_tables.proofs.tests.schedules.are_runs.Goals as goal

abbrev choices : List Choice
choices = Go 0 0 ∷ Go 0 0 ∷ Go 0 1 ∷ Take 26 true ∷ Take 26 true ∷ Go 0 1 ∷ Go 0 1 ∷ []

pub from_trace-requires-clause-taken : goal.from_trace-requires-clause-taken
unfolding device_row
from_trace-requires-clause-taken c =
    let each : AllByRecursion (IsTaken M328) choices = (tt, (tt, (tt, ((omega arith, omega arith), ((omega arith, omega arith), (tt, (tt, tt))))))) in
    All-from_recursion (IsTaken M328) choices each
