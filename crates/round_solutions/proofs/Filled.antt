-- Nodes with their forms determine the family.
use Rattle.std.proofs.Common.{◌≡◌, ◌≢◌, refl, sym, ap, ◌∙◌, subst, ℕ, zero, suc, ◌<◌, ◌≤◌, ◌⊎◌, inl, inr, Bool, true, false, if◌then◌else◌, List, [], ◌∷◌, length, Some, Contains, slice_get, arith}
use Rattle.std.proofs.lemmas.Option.{same_Some, slice_get_within}
use Rattle.std.specs.declared.cmp.Ordering.TheVariants.{Less}
use Rattle.basics.specs.Items.{none_in, first_in, further_in, first_or_further, contained_at, only_one_in as only}
use Rattle.basics.specs.Lists.{get_inside}
use Rattle.edge_laws.proofs.AllLaws.{part_of}
use Rattle.abs_state.specs.declared.state.AbsState.{AbsState}
use Rattle.node_keys.specs.declared.keys.NodeKey.{NodeKey}
use Rattle.node_keys.specs.declared.keys.EdgeKind.TheVariants as kind
use Rattle.node_keys.specs.Keys.{root_inst, entry_key}
use Rattle.node_keys.specs.Order.{node_cmp, same_node}
use Rattle.node_keys.proofs.AllLaws.{keys_are_ordered}
use Rattle.local_rules.specs.declared.local.Node.{Node}
use Rattle.local_rules.specs.Local.{joined_onto}
use Rattle.edge_rules.specs.declared.edge.Edge.{Edge}
use Rattle.edge_rules.specs.declared.seeded.NodeForm.{NodeForm}
use Rattle.edge_rules.specs.declared.seeded.NodeForm.TheVariants.{State, From}
use Rattle.edge_rules.specs.Edges.{IsFaultless, raw_of, IsEdge, by_call, by_interrupt, moving, entering, returning}
use Rattle.edge_rules.specs.Expansion.{Seeds, states_at, IsExpansion, own, along, IsFilled}
use Rattle.edge_laws.proofs.ExpansionLaws.{successors_are_one}
use Rattle.round_rules.specs.Families.{Family, nodes_of}
use Rattle.round_rules.specs.Refusals.{IsSolved}
use Rattle.round_rules.specs.Sparse.{IsOnlyFrom, AreSparse}
use Rattle.round_laws.proofs.AllLaws.{has_member, ok_of}
use Rattle.round_solutions.specs.Laws.{LoneEdgesTell}
use Rattle.round_solutions.specs.Parts.{IsForm, AreForms}
use Rattle.round_solutions.proofs.Order.{ascending, node_before, node_once, root_node_first}
use Rattle.round_solutions.proofs.Lone.{formed, lone}
use Rattle.local_rules.specs.Site.{Task}

-- ---- successors of one key

in_states : (k : NodeKey) (ns : List Node) (x : Node) → x.key ≡ k → Contains ns x → Contains (states_at k ns) x.state
in_states k [] x same i = absurd (none_in x i)
in_states k (n ∷ ns) x same i = by (in_states k ns x same) (same_node n.key k) refl (first_or_further n x ns i)
  where
    by : (Contains ns x → Contains (states_at k ns) x.state) → (b : Bool) → same_node n.key k ≡ b → (x ≡ n) ⊎ Contains ns x
        → Contains (if b then n.state ∷ states_at k ns else states_at k ns) x.state
    by rest true t (inl e) = subst (λ (y : Node). Contains (n.state ∷ states_at k ns) y.state) (sym e) (first_in n.state (states_at k ns))
    by rest true t (inr j) = further_in n.state x.state (states_at k ns) (rest j)
    by rest false t (inl e) = absurd (let h = (keys_are_ordered.same_nodes n.key k).1 (sym (ap (λ (y : Node). y.key) e) ∙ same) in cc)
    by rest false t (inr j) = rest j

alone : (xs : List AbsState) (x : AbsState) → length xs ≤ 1 → Contains xs x → xs ≡ x ∷ []
alone [] x few i = absurd (none_in x i)
alone (y ∷ []) x few i = ap (λ z. z ∷ []) (sym (only y x i))
alone (y ∷ z ∷ zs) x few i = absurd (omega (arith, few))

-- the target of a local edge
record Moves (task : Task) (n : Node) (e : Edge) : Type 0 where
  clean : IsFaultless task n
  to : Node
  member : Contains (joined_onto [] (raw_of task n).moves) to
  key : to.key ≡ e.to
  state : to.state ≡ e.state

moves : (task : Task) (nodes : List Node) (n : Node) (e : Edge) → IsEdge task nodes n e → e.kind ≡ kind.Local → Moves task n e
moves task nodes n _ (moving to clean member) is = record { clean = clean; to = to; member = member; key = refl; state = refl }
moves task nodes n _ (entering _ inst back (by_call offset site clean form member)) is = absurd (cc)
moves task nodes n _ (entering _ inst back (by_interrupt offset v clears clean form i delay enabled allowed clearable)) is = absurd (cc)
moves task nodes n _ (returning way inst back leaver x state enters present same clean exit it) is = absurd (cc)

-- local edges of a node to one key are equal
same_edge : (task : Task) (nodes : List Node) (n : Node) (d e : Edge) → IsEdge task nodes n d → IsEdge task nodes n e
    → d.kind ≡ kind.Local → e.kind ≡ kind.Local → d.to ≡ e.to → d ≡ e
same_edge task nodes n d e is_d is_e local_d local_e to =
    let v = moves task nodes n d is_d local_d in
    let w = moves task nodes n e is_e local_e in
    let l = part_of (raw_of task n) in
    let few = successors_are_one.few task n.key e.to n.state l (ok_of task n.key n.state w.clean) in
    let states = alone (states_at e.to l.same) w.to.state few (in_states e.to l.same w.to w.key w.member) in
    let state : v.to.state ≡ w.to.state = only w.to.state v.to.state (subst (λ (xs : List AbsState). Contains xs v.to.state) states (in_states e.to l.same v.to (v.key ∙ to) v.member)) in
    let kinds = local_d ∙ sym local_e in
    let ends = sym v.state ∙ state ∙ w.state in
    λ i. record { kind = kinds i; to = to i; state = ends i }

-- ---- the nodes with their forms

module _ (task : Task) (n : ℕ) (f : Family) (solved : IsSolved task n f) (seeds : Seeds) (forms : AreForms task (nodes_of f) seeds) where
  abbrev nodes : List Node
  nodes = nodes_of f

  -- a node after another isn't the root's after reset
  not_root : (m at : ℕ) (x : Node) → m < at → slice_get nodes at ≡ Some x → x.key ≢ entry_key root_inst
  not_root m at x lt e is =
      let y = get_inside nodes m (omega (arith, lt, slice_get_within nodes at x e)) in
      root_node_first y.0.key (subst (λ (k : NodeKey). node_cmp y.0.key k ≡ Less) is (node_before nodes m at y.0 x (ascending f) y.1 e lt))

  state_is : (m at : ℕ) (x : Node) → m < at → slice_get nodes at ≡ Some x → (only : IsOnlyFrom task nodes x.key m) → only.edge.state ≡ x.state
  state_is m at x lt e only = lone task n f solved x.key m x.state only (not_root m at x lt e) (has_member f x (contained_at nodes at x e))

  one_state : (k : NodeKey) (m : ℕ) (only : IsOnlyFrom task nodes k m)
      → states_at k (joined_onto [] (raw_of task only.node).moves) ≡ only.edge.state ∷ []
  one_state k m only =
      let w = moves task nodes only.node only.edge only.is only.moves in
      let l = part_of (raw_of task only.node) in
      let few = successors_are_one.few task only.node.key k only.node.state l (ok_of task only.node.key only.node.state w.clean) in
      alone (states_at k l.same) only.edge.state few
      (subst (Contains (states_at k l.same)) w.state (in_states k l.same w.to (w.key ∙ only.leads) w.member))

  abbrev Expands : ℕ → Node → Type 0
  Expands at x = IsExpansion task seeds at x.state

  expands : (count at : ℕ) (x : Node) → at < count → slice_get nodes at ≡ Some x → Expands at x
  expands zero at x lt e = absurd (omega (arith, lt))
  expands (suc count) at x lt e = let h = forms.each at x e in by h.0 h.1.0 h.1.1 (λ m y less is. expands count m y (omega (arith, lt, less)) is)
    where
      by : (form : NodeForm) → slice_get seeds at ≡ Some (x.key, form) → IsForm task nodes at x form
          → ((m : ℕ) (y : Node) → m < at → slice_get nodes m ≡ Some y → Expands m y) → Expands at x
      by (State s) is h earlier = subst (λ (z : AbsState). IsExpansion task seeds at z) h.0 (own at x.key s is)
      by (From m) is h earlier =
          let only = h.1 in
          let g = forms.each m only.node only.at in
          let w = moves task nodes only.node only.edge only.is only.moves in
          along at m x.key only.node.key g.0 only.node.state x.state (part_of (raw_of task only.node)) is h.0 g.1.0 (earlier m only.node h.0 only.at)
          (ok_of task only.node.key only.node.state w.clean)
          (one_state x.key m only ∙ ap (λ (z : AbsState). z ∷ []) (state_is m at x h.0 e only))

  pub filled : IsFilled task seeds nodes
  filled = record {
    count = sym forms.count;
    keys = λ at x e. let h = forms.each at x e in (h.0, h.1.0);
    states = λ at x e. expands (suc at) at x (omega arith) e;
    formed = λ at x e. formed task n f solved x (has_member f x (contained_at nodes at x e));
  }

-- ---- which are left out

module _ (task : Task) (f : Family) (seeds : Seeds) (forms : AreForms task (nodes_of f) seeds) where
  -- the number is that of the edge's origin
  one_from : (k : NodeKey) (m j : ℕ) → IsOnlyFrom task (nodes_of f) k m → IsOnlyFrom task (nodes_of f) k j → m ≡ j
  one_from k m j a b =
      let same = (a.only b.node b.edge (contained_at (nodes_of f) j b.node b.at) b.is b.leads).0 in
      node_once (nodes_of f) m j a.node (ascending f) a.at (b.at ∙ ap Some same)

  from_is : (at m : ℕ) (x : Node) (form : NodeForm) → IsForm task (nodes_of f) at x form → (m < at) × IsOnlyFrom task (nodes_of f) x.key m → form ≡ From m
  from_is at m x (State s) h g = absurd (h.1 m g.0 g.1)
  from_is at m x (From j) h g = ap From (one_from x.key j m h.1 g.1)

  is_from : (at m : ℕ) (x : Node) (form : NodeForm) → IsForm task (nodes_of f) at x form → form ≡ From m → (m < at) × IsOnlyFrom task (nodes_of f) x.key m
  is_from at m x (State s) h e = absurd (cc)
  is_from at m x (From j) h e = let same : j ≡ m = cc in subst (λ (i : ℕ). (i < at) × IsOnlyFrom task (nodes_of f) x.key i) same h

  same_pair : (a b : NodeKey × NodeForm) → Some a ≡ Some b → (a.0 ≡ b.0) × (a.1 ≡ b.1)
  same_pair a b e = let p = same_Some a b e in (ap (λ (x : NodeKey × NodeForm). x.0) p, ap (λ (x : NodeKey × NodeForm). x.1) p)

  pub sparse : AreSparse task (nodes_of f) seeds
  sparse at m k form e =
      let x = get_inside (nodes_of f) at (omega (arith, forms.count, slice_get_within seeds at (k, form) e)) in
      let h = forms.each at x.0 x.1 in
      let p = same_pair (x.0.key, h.0) (k, form) (sym h.1.0 ∙ e) in
      let is : IsForm task (nodes_of f) at x.0 form = subst (IsForm task (nodes_of f) at x.0) p.1 h.1.1 in (
        λ g. subst (λ (q : NodeKey). (m < at) × IsOnlyFrom task (nodes_of f) q m) p.0 (is_from at m x.0 form is g),
        λ g. from_is at m x.0 form is (subst (λ (q : NodeKey). (m < at) × IsOnlyFrom task (nodes_of f) q m) (sym p.0) g),
      )

pub lone_edges_tell : LoneEdgesTell
lone_edges_tell = record {
  one = same_edge;
  state = λ task n f k m s solved only other is. lone task n f solved k m s only other is;
  filled = λ task n f seeds solved forms. filled task n f solved seeds forms;
  sparse = sparse;
}
