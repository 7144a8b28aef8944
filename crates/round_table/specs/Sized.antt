-- Families whose states have as many slots as the offsets of their keys.
use Rattle.std.specs.Prelude.{◌≡◌, length, Some}
use Rattle.std.specs.FinMap.{FinMap, get}
use Rattle.abs_state.specs.declared.state.AbsState.{AbsState}
use Rattle.node_keys.specs.declared.keys.NodeKey.{NodeKey}
use Rattle.node_keys.specs.Keys.{offset_of}
use Rattle.node_keys.specs.Order.{node_cmp}

abbrev pub AreStatesSized : FinMap node_cmp AbsState → Type 0
AreStatesSized f = (k : NodeKey) (s : AbsState) → get f k ≡ Some s → length s.slots ≡ offset_of k.sp
