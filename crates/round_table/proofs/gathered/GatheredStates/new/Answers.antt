use Rattle.std.proofs.Common.{List, [], sym, ◌∙◌, subst}
use Rattle.std.specs.List.{IsDistinct}
use Rattle.std.specs.Map.{keys_of}
use Rattle.std.specs.FinMap.{empty, from_entries, get-empty}
use Rattle.abs_state.specs.declared.state.AbsState.{AbsState}
use Rattle.node_keys.specs.declared.keys.NodeKey.{NodeKey}
use Rattle.node_keys.specs.Order.{node_cmp, same_node}
use Rattle.round_table.specs.Sized.{AreStatesSized}
use Rattle.round_table.proofs.gathered.GatheredStates.new.Goals as goal

none_sized : AreStatesSized empty
none_sized k s e = absurd (let never = sym (get-empty node_cmp k) ∙ e in cc)

none_twice : IsDistinct same_node []
unfolding IsDistinct
none_twice = tt

pub invariant_of-result : goal.invariant_of-result
invariant_of-result c =
    subst (λ (es : List (NodeKey × AbsState)). AreStatesSized (from_entries {R = node_cmp} es) × IsDistinct same_node (keys_of es)) (sym c.new.ensures.empty) (none_sized, none_twice)
