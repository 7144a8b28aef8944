-- The state at reset. Source: own.
use Rattle.std.specs.Prelude.{Bool, true, false, List}
use Rattle.avr_model.specs.declared.assumption.Entry.{Entry}
use Rattle.avr_model.specs.Assumptions.{has_pairs}
use Rattle.abs_state.specs.declared.state.AbsState.{AbsState}
use Rattle.abs_state.specs.Values.{root, following_root}

-- the state at reset, with pairs followed or not
abbrev pub root_by : Bool → AbsState
root_by false = root
root_by true = following_root

-- the state at reset: pairs are followed exactly if the list has the line `pairs`
abbrev pub root_of : List Entry → AbsState
root_of A = root_by (has_pairs A)
