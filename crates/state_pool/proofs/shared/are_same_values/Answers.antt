use Rattle.std.proofs.lemmas.Slice.Eq.{slice_eq-Decides}
use Rattle.state_pool.proofs.SameStates.{same_value}
use Rattle.state_pool.proofs.shared.are_same_values.Goals as goal

pub returns : goal.returns
returns c = slice_eq-Decides same_value _ _ _ c.eq.ensures
