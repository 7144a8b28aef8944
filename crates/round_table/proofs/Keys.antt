-- A key of the family is that of an entry.
use Rattle.std.proofs.Common.{◌≡◌, refl, sym, ◌∙◌, subst, Bool, true, false, cond, List, [], ◌∷◌, Some, Contains, ℕ}
use Rattle.std.specs.Map.{lookup, keys_of}
use Rattle.std.specs.Option.{option_map}
use Rattle.std.specs.FinMap.{get, from_entries}
use Rattle.basics.specs.Items.{first_in, further_in}
use Rattle.abs_state.specs.declared.state.AbsState.{AbsState}
use Rattle.node_keys.specs.declared.keys.NodeKey.{NodeKey}
use Rattle.node_keys.specs.Order.{node_cmp, same_node}
use Rattle.node_keys.proofs.AllLaws.{keys_are_ordered}
use Rattle.state_pool.specs.Uses.{Uses}
use Rattle.state_pool.specs.Counts.{state_at}
use Rattle.round_table.specs.Families.{Family}
use Rattle.round_table.specs.Shared.{stated}
use Rattle.round_table.proofs.Shared.{get_stated}

looked_up : (pool : Uses) (es : List (NodeKey × ℕ)) (q : NodeKey) (s : AbsState) → option_map (state_at pool) (lookup (same_node q) es) ≡ Some s → Contains (keys_of es) q
looked_up pool [] q s e = absurd (cc)
looked_up pool (x ∷ es) q s e = by (looked_up pool es q s) (same_node q x.0) refl e
  where
    by : (option_map (state_at pool) (lookup (same_node q) es) ≡ Some s → Contains (keys_of es) q) → (b : Bool) → same_node q x.0 ≡ b → option_map (state_at pool) (cond b (Some x.1) (lookup (same_node q) es)) ≡ Some s → Contains (keys_of (x ∷ es)) q
    by rest true t h = subst (Contains (keys_of (x ∷ es))) (sym ((keys_are_ordered.same_nodes q x.0).0 t)) (first_in x.0 (keys_of es))
    by rest false t h = further_in x.0 q (keys_of es) (rest h)

pub key_there : (pool : Uses) (es : List (NodeKey × ℕ)) (f : Family) (q : NodeKey) (s : AbsState) → from_entries {R = node_cmp} (stated pool es) ≡ f → get f q ≡ Some s
    → Contains (keys_of es) q
key_there pool es f q s is has = looked_up pool es q s (sym (get_stated pool es f q is) ∙ has)
