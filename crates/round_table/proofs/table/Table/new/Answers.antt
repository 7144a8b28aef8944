use Rattle.std.proofs.Common.{ℕ, List, [], sym, ap, ◌∙◌, subst}
use Rattle.std.specs.List.{IsDistinct}
use Rattle.std.specs.FinMap.{empty, from_entries, get-empty}
use Rattle.std.specs.Ordering.{nat_cmp}
use Rattle.node_keys.specs.declared.keys.NodeKey.{NodeKey}
use Rattle.node_keys.specs.Order.{node_cmp, same_node}
use Rattle.state_pool.specs.Uses.{Uses}
use Rattle.state_pool.specs.Counts.{held_count}
use Rattle.round_table.specs.Sized.{AreStatesSized}
use Rattle.round_table.specs.Shared.{stated, IsShared}
use Rattle.round_table.proofs.table.Table.new.Goals as goal

none_sized : AreStatesSized empty
none_sized k s e = absurd (let never = sym (get-empty node_cmp k) ∙ e in cc)

none_twice : IsDistinct same_node []
unfolding IsDistinct
none_twice = tt

nothing : IsShared empty []
nothing = record { sized = none_sized; distinct = none_twice; counted = λ n. ap held_count (get-empty nat_cmp n) }

pub invariant_of-result : goal.invariant_of-result
invariant_of-result c =
    subst (λ (es : List (NodeKey × ℕ)). IsShared c.new-2.result es) (sym c.new.ensures.empty) (subst (λ (pool : Uses). IsShared pool []) (sym c.new-2.ensures) nothing)

pub returns : goal.returns
returns c = ap (λ (es : List (NodeKey × ℕ)). from_entries {R = node_cmp} (stated c.new-2.result es)) c.new.ensures.empty
