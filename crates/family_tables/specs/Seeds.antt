-- The states of the nodes of tests.
use Rattle.abs_state.specs.declared.state.AbsState.{AbsState}
use Rattle.abs_state.specs.Values.{root}
use Rattle.abs_state.specs.Frames.{entered}
use Rattle.node_keys.specs.declared.keys.Kind.{Kind}
use Rattle.node_keys.specs.declared.keys.Kind.TheVariants.{Root, Call, Vector}

-- the state at reset, or outside the root the one at an entry from it
abbrev pub first_state : Kind → AbsState
first_state Root = root
first_state Call = entered root
first_state (Vector v) = entered root
