-- The state of a node with only one edge to it.
use Rattle.std.proofs.Common.{Bool, ◌≡◌, ◌≢◌, refl, sym, ap, ◌∙◌, subst, ℕ, zero, suc, Some, Contains}
use Rattle.std.specs.FinMap.{get, insert}
use Rattle.basics.specs.Items.{contained_at}
use Rattle.std.proofs.lemmas.Option.{same_Some}
use Rattle.avr_model.specs.Assumptions.{has_pairs}
use Rattle.avr_model.specs.Devices.{device_of}
use Rattle.abs_state.specs.declared.state.AbsState.{AbsState}
use Rattle.abs_state.specs.Order.{IsStateWithin}
use Rattle.abs_state.proofs.AllLaws.{states_are_ordered, joins_are_formed}
use Rattle.node_keys.specs.declared.keys.NodeKey.{NodeKey}
use Rattle.node_keys.specs.Keys.{root_inst, entry_key, offset_of}
use Rattle.local_rules.specs.declared.local.Node.{Node}
use Rattle.local_rules.specs.Cover.{IsNodeIn}
use Rattle.edge_rules.specs.declared.edge.Edge.{Edge}
use Rattle.edge_rules.specs.Edges.{target}
use Rattle.edge_laws.specs.Laws.{with_state}
use Rattle.edge_laws.proofs.AllLaws.{edges_lead_to_nodes, edges_grow}
use Rattle.certificate.specs.Valid.{reset_node}
use Rattle.round_rules.specs.Families.{Family, nodes_of, FamilyHas, Lands, Below, AreFormed, HasNoFault, LandIn, IsClosed}
use Rattle.round_rules.specs.Rounds.{Comes}
use Rattle.round_rules.specs.Refusals.{IsSolved}
use Rattle.round_rules.specs.Sparse.{IsOnlyFrom}
use Rattle.round_laws.proofs.AllLaws.{at_keys, get_same, get_other, has_member, member_has, lands_covered, formed_nodes, first_has, comes_formed, comes_root}
use Rattle.local_rules.specs.Site.{Task}

module _ (task : Task) where
  -- if an edge of a greater family lands, so does that of the lesser
  over : {followed : Bool} (g h : Family) → AreFormed (device_of task.flash) followed g → AreFormed (device_of task.flash) followed h → Below g h → HasNoFault task h → IsClosed task h → LandIn task g h
  over g h low high below clean closed m e has edge =
      let p = edges_grow.edges task (nodes_of g) (nodes_of h) m e (formed_nodes g low) (formed_nodes h high) (λ x i. lands_covered h x (below x (has_member g x i)))
      (λ x i. clean x (has_member h x i)) (member_has g m has) edge in
      let l = closed (with_state m p.from) (record { kind = e.kind; to = e.to; state = p.landed }) (has_member h (with_state m p.from) p.present) p.is_edge in
      record { at = l.at; is = l.is; above = states_are_ordered.through e.state p.landed l.at p.above l.above }

  -- the rounds stay below each closed family without faults that has the root's node
  pub rounds_below : (h : Family) → AreFormed (device_of task.flash) (has_pairs task.assumptions) h → HasNoFault task h → IsClosed task h → Lands h (reset_node task.assumptions) → (n : ℕ) (g : Family) → Comes task n g → Below g h
  rounds_below h high clean closed root zero g c = subst (λ (x : Family). Below x h) (sym c) (λ m i. first_has task.assumptions (λ q s. Lands h (record { key = q; state = s })) root m i)
  rounds_below h high clean closed root (suc n) g c =
      let low = comes_formed task n c.0 c.1 in
      let below = rounds_below h high clean closed root n c.0 c.1 in
      c.4.least h below (over c.0 h low high below clean closed)

  module _ (n : ℕ) (f : Family) (solved : IsSolved task n f) where
    pub formed : AreFormed (device_of task.flash) (has_pairs task.assumptions) f
    formed = comes_formed task n f solved.comes

    module _ (k : NodeKey) (m : ℕ) (t : AbsState) (only : IsOnlyFrom task (nodes_of f) k m) (other : k ≢ entry_key root_inst) (is : get f k ≡ Some t) where
      abbrev s : AbsState
      s = only.edge.state

      from_member : Contains (nodes_of f) only.node
      from_member = contained_at (nodes_of f) m only.node only.at

      s_node : IsNodeIn (device_of task.flash) (has_pairs task.assumptions) k s
      s_node = subst (λ (q : NodeKey). IsNodeIn (device_of task.flash) (has_pairs task.assumptions) q s) only.leads (edges_lead_to_nodes.edges task (nodes_of f) only.node only.edge (formed_nodes f formed) from_member only.is)

      s_within : IsStateWithin s t
      s_within =
          let l = solved.closed only.node only.edge (has_member f only.node from_member) only.is in
          subst (IsStateWithin s) (same_Some l.at t (sym l.is ∙ ap (get f) only.leads ∙ is)) l.above

      -- the family with the edge's state instead of the node's
      abbrev h : Family
      h = insert f k s

      each : (P : NodeKey → AbsState → Type 0) → P k s → ((q : NodeKey) (v : AbsState) → get f q ≡ Some v → P q v) → (x : Node) → FamilyHas h x → P x.key x.state
      each P here others x has =
          at_keys (λ q. (v : AbsState) → get h q ≡ Some v → P q v) k x.key (λ v e. subst (P k) (same_Some s v (sym (get_same f k s) ∙ e)) here)
          (λ ne v e. others x.key v (sym (get_other f k s x.key ne) ∙ e)) x.state has

      h_formed : AreFormed (device_of task.flash) (has_pairs task.assumptions) h
      h_formed = each (IsNodeIn (device_of task.flash) (has_pairs task.assumptions)) s_node (λ q v e. formed (record { key = q; state = v }) e)

      h_below : Below h f
      h_below =
          each (λ q v. Lands f (record { key = q; state = v })) (record { at = t; is = is; above = s_within })
          (λ q v e. record { at = v; is = e; above = states_are_ordered.same v })

      h_clean : HasNoFault task h
      h_clean x has =
          let l = h_below x has in
          let y = with_state x l.at in
          edges_grow.faultless task x l.at (h_formed x has) (formed y l.is) l.above (solved.passes.faultless y l.is)

      lands_h : (x : Node) → Lands f x → (x.key ≡ k → IsStateWithin x.state s) → Lands h x
      lands_h x l within = at_keys (λ q. x.key ≡ q → Lands h x) k x.key
          (λ e. record { at = s; is = ap (get h) e ∙ get_same f k s; above = within e })
          (λ ne e. record { at = l.at; is = get_other f k s x.key ne ∙ l.is; above = l.above }) refl

      h_closed : IsClosed task h
      h_closed x e has edge =
          let p = edges_grow.edges task (nodes_of h) (nodes_of f) x e (formed_nodes h h_formed) (formed_nodes f formed) (λ y i. lands_covered f y (h_below y (has_member h y i)))
          (λ y i. solved.passes.faultless y (has_member f y i)) (member_has h x has) edge in
          let y = with_state x p.from in
          let up : Edge = record { kind = e.kind; to = e.to; state = p.landed } in
          let l = solved.closed y up (has_member f y p.present) p.is_edge in
          lands_h (target e) (record { at = l.at; is = l.is; above = states_are_ordered.through e.state p.landed l.at p.above l.above })
          (λ same. let o = only.only y up p.present p.is_edge same in subst (IsStateWithin e.state) (ap (λ (z : Edge). z.state) o.1) p.above)

      h_root : Lands h (reset_node task.assumptions)
      h_root = lands_h (reset_node task.assumptions) (comes_root task n f solved.comes) (λ e. absurd (other (sym e)))

      pub lone : s ≡ t
      lone =
          let l = rounds_below h h_formed h_clean h_closed h_root n f solved.comes (record { key = k; state = t }) is in
          let ge = subst (IsStateWithin t) (same_Some l.at s (sym l.is ∙ get_same f k s)) l.above in
          states_are_ordered.both s t (joins_are_formed.whole s (offset_of k.sp) s_node.formed) (joins_are_formed.whole t (offset_of k.sp) (formed (record { key = k; state = t }) is).formed) s_within ge
