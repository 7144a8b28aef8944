-- Settled registers, as the code gives them.
use Rattle.std.specs.Prelude.{Bool, true, false, List, Option, Some, None}
use Rattle.abs_state.specs.declared.values.AbsByte.{AbsByte}

-- the registers, if each value is possible
abbrev pub values_in : Bool → List AbsByte → Option (List AbsByte)
values_in true registers = Some registers
values_in false registers = None
