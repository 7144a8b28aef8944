-- Successors of one key.
use Rattle.std.proofs.Common.{◌≡◌, refl, sym, ap, ◌∙◌, subst, Bool, true, false, if◌then◌else◌, List, [], ◌∷◌, map, Some, Ok}
use Rattle.std.specs.List.{AllByRecursion}
use Rattle.std.specs.List.Sorted.{IsStrictlySortedBy}
use Rattle.std.specs.declared.cmp.Ordering.TheVariants.{Less, Equal}
use Rattle.basics.specs.Items.{first_in, further_in}
use Rattle.avr_model.specs.declared.device.Device.{Device}
use Rattle.avr_model.specs.Devices.{device_of}
use Rattle.abs_state.specs.declared.state.AbsState.{AbsState}
use Rattle.node_keys.specs.declared.keys.NodeKey.{NodeKey}
use Rattle.node_keys.specs.Order.{node_cmp, same_node}
use Rattle.node_keys.proofs.AllLaws.{keys_are_ordered}
use Rattle.local_rules.specs.declared.local.Local.{Local}
use Rattle.local_rules.specs.declared.local.Node.{Node}
use Rattle.local_rules.specs.declared.local.NodeFault.{NodeFault}
use Rattle.local_rules.specs.Cover.{IsNodeIn}
use Rattle.local_rules.specs.Raw.{Raw}
use Rattle.local_laws.specs.Laws.{AreNodesIn}
use Rattle.local_rules.specs.Local.{raw, settled, joined_onto, local}
use Rattle.local_laws.proofs.AllLaws.{joins_are_least, local_parts_are_nodes}
use Rattle.edge_rules.specs.Expansion.{states_at}
use Rattle.edge_laws.specs.Carrying.{first_at}
use Rattle.edge_laws.proofs.Lists.{as_list}
use Rattle.local_rules.specs.Site.{Task}

-- ---- in an ascending list

abbrev IsKeyBefore : NodeKey → List Node → Type 0
IsKeyBefore k ns = AllByRecursion (λ (y : NodeKey). node_cmp k y ≡ Less) (map (λ (n : Node). n.key) ns)

abbrev AscendByKey : List Node → Type 0
AscendByKey ns = IsStrictlySortedBy node_cmp (map (λ (n : Node). n.key) ns)

pub not_below_itself : (k : NodeKey) → node_cmp k k ≡ Less → ⊥
not_below_itself k e = let h : Less ≡ Equal = sym e ∙ (keys_are_ordered.equal_nodes k k).1 refl in cc

none_before : (k : NodeKey) (ns : List Node) → IsKeyBefore k ns → states_at k ns ≡ []
none_before k [] h = refl
none_before k (n ∷ ns) h = by (none_before k ns h.1) (same_node n.key k) refl
  where
    by : states_at k ns ≡ [] → (b : Bool) → same_node n.key k ≡ b → (if b then n.state ∷ states_at k ns else states_at k ns) ≡ []
    by rest true e = absurd (not_below_itself k (subst (λ x. node_cmp k x ≡ Less) ((keys_are_ordered.same_nodes n.key k).0 e) h.0))
    by rest false e = rest

firsts : (k : NodeKey) (ns : List Node) → AscendByKey ns → states_at k ns ≡ as_list (first_at k ns)
unfolding IsStrictlySortedBy
firsts k [] h = refl
firsts k (n ∷ ns) h = by (firsts k ns h.1) (same_node n.key k) refl
  where
    by : states_at k ns ≡ as_list (first_at k ns) → (b : Bool) → same_node n.key k ≡ b
        → (if b then n.state ∷ states_at k ns else states_at k ns) ≡ as_list (if b then Some n.state else first_at k ns)
    by rest true e = ap (λ l. n.state ∷ l) (none_before k ns (subst (λ j. IsKeyBefore j ns) ((keys_are_ordered.same_nodes n.key k).0 e) h.0))
    by rest false e = rest

picked_node : {device : Device} {followed : Bool} (k : NodeKey) (ns : List Node) (t : AbsState) → AreNodesIn device followed ns → states_at k ns ≡ t ∷ [] → IsNodeIn device followed k t
picked_node {device = device} {followed = followed} k [] t h e = cc
picked_node {device = device} {followed = followed} k (n ∷ ns) t h e = by (picked_node k ns t (λ x i. h x (further_in n x ns i))) (same_node n.key k) refl e
  where
    by : (states_at k ns ≡ t ∷ [] → IsNodeIn device followed k t) → (b : Bool) → same_node n.key k ≡ b
        → (if b then n.state ∷ states_at k ns else states_at k ns) ≡ t ∷ [] → IsNodeIn device followed k t
    by rest true is e =
        let s : n.state ≡ t = cc in
        subst (IsNodeIn device followed k) s (subst (λ x. IsNodeIn device followed x n.state) ((keys_are_ordered.same_nodes n.key k).0 is) (h n (first_in n ns)))
    by rest false is e = rest e

-- ---- of a node

settled_same : (r : Raw) (fs : List NodeFault) (l : Local) → settled r fs ≡ Ok l → (fs ≡ []) × (l.same ≡ joined_onto [] r.moves)
settled_same r [] l e =
    let q : record { same = joined_onto [] r.moves; calls = r.calls; exit = r.exit } ≡ l = cc in
    (refl, ap (λ (x : Local). x.same) (sym q))
settled_same r (f ∷ fs) l e = cc

module _ (task : Task) (j : NodeKey) (s : AbsState) (l : Local) (is : local task j s ≡ Ok l) where
  local_same : ((raw task j s).faults ≡ []) × (l.same ≡ joined_onto [] (raw task j s).moves)
  unfolding local
  local_same = settled_same (raw task j s) (raw task j s).faults l is

  -- the first successor of a key is the only one
  pub only_first : (k : NodeKey) → states_at k l.same ≡ as_list (first_at k l.same)
  only_first k = firsts k l.same (subst AscendByKey (sym local_same.1) (joins_are_least.ascending (raw task j s).moves))

  pub successor_node : {followed : Bool} (k : NodeKey) (t : AbsState) → IsNodeIn (device_of task.flash) followed j s → states_at k l.same ≡ t ∷ [] → IsNodeIn (device_of task.flash) followed k t
  successor_node {followed = followed} k t node =
      picked_node k l.same t
      (subst (AreNodesIn (device_of task.flash) followed) (sym local_same.1)
      (joins_are_least.nodes (raw task j s).moves (λ to i. (local_parts_are_nodes.nodes task j s to node local_same.0 i).1)))
