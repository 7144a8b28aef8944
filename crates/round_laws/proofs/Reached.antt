-- What the node at reset has and edges preserve holds of all nodes of the rounds.
use Rattle.std.proofs.Common.{◌≡◌, refl, sym, ap, ◌∙◌, subst, ℕ, zero, suc, Bool, true, false, cond, Some, None}
use Rattle.std.specs.declared.cmp.Ordering.TheVariants.{Equal}
use Rattle.std.specs.FinMap.{get, retain_keys, get-retain_keys}
use Rattle.avr_model.specs.Devices.{device_of}
use Rattle.abs_state.specs.declared.state.AbsState.{AbsState}
use Rattle.node_keys.specs.declared.keys.NodeKey.{NodeKey}
use Rattle.node_keys.specs.Keys.{root_inst, entry_key}
use Rattle.node_keys.specs.Order.{node_cmp}
use Rattle.local_rules.specs.declared.local.Node.{Node}
use Rattle.edge_rules.specs.Edges.{target}
use Rattle.edge_laws.specs.Laws.{with_state}
use Rattle.edge_laws.proofs.AllLaws.{edges_grow}
use Rattle.round_rules.specs.Families.{Family, nodes_of, FamilyHas, Lands, Below, AreFormed, HasNoFault, LandIn}
use Rattle.round_rules.specs.Rounds.{IsNext, Comes}
use Rattle.round_laws.proofs.AllLaws.{node_exact, comes_formed, first_has, has_member, member_has, lands_covered, formed_nodes}
use Rattle.round_laws.specs.Reached.{IsKept, RoundsAreReached}
use Rattle.local_rules.specs.Site.{Task}

module _ (task : Task) (holds : NodeKey → Bool) where
  alike : (q x : NodeKey) → node_cmp q x ≡ Equal → holds x ≡ holds q
  alike q x e = ap holds (sym (node_exact q x e))

  kept_by : (g : Family) (k : NodeKey) → holds k ≡ true → get (retain_keys g holds) k ≡ get g k
  kept_by g k e = get-retain_keys g holds k (λ x t. alike k x t) ∙ ap (λ b. cond b (get g k) None) e

  kept_holds : (g : Family) (k : NodeKey) (s : AbsState) → get (retain_keys g holds) k ≡ Some s → holds k ≡ true
  kept_holds g k s e = by (holds k) refl
    where
      by : (b : Bool) → holds k ≡ b → b ≡ true
      by true t = refl
      by false t = absurd (let never = sym (get-retain_keys g holds k (λ x h. alike k x h) ∙ ap (λ b. cond b (get g k) None) t) ∙ e in cc)

  lands_kept : (g : Family) (n : Node) → holds n.key ≡ true → Lands g n → Lands (retain_keys g holds) n
  lands_kept g n h l = record { at = l.at; is = kept_by g n.key h ∙ l.is; above = l.above }

  -- what the edges of a family without faults preserve, those of one below it preserve
  kept_down : {followed : Bool} (f g : Family) → AreFormed (device_of task.flash) followed f → AreFormed (device_of task.flash) followed g → Below f g → HasNoFault task g → IsKept task g holds → IsKept task f holds
  kept_down f g low high below clean kept n e has h edge =
      let o = edges_grow.edges task (nodes_of f) (nodes_of g) n e (formed_nodes f low) (formed_nodes g high) (λ m c. lands_covered g m (below m (has_member f m c)))
      (λ m c. clean m (has_member g m c)) (member_has f n has) edge in
      kept (with_state n o.from) (record { kind = e.kind; to = e.to; state = o.landed }) (has_member g (with_state n o.from) o.present) h o.is_edge

  next_holds : (f g : Family) → IsNext task f g → IsKept task f holds → ((n : Node) → FamilyHas f n → holds n.key ≡ true) → (n : Node) → FamilyHas g n → holds n.key ≡ true
  next_holds f g next kept all n has =
      let h = retain_keys g holds in
      let up : Below f h = λ m there. lands_kept g m (all m there) (next.above m there) in
      let lands : LandIn task f h = λ m e there edge. lands_kept g (target e) (kept m e there (all m there) edge) (next.edges m e there edge) in
      let l = next.least h up lands n has in
      kept_holds g n.key l.at l.is

  all_hold : (n : ℕ) (f : Family) → Comes task n f → HasNoFault task f → holds (entry_key root_inst) ≡ true → IsKept task f holds
      → (m : Node) → FamilyHas f m → holds m.key ≡ true
  all_hold zero f c clean root kept = λ m has. first_has task.assumptions (λ k s. holds k ≡ true) root m (subst (λ (x : Family). get x m.key ≡ Some m.state) c has)
  all_hold (suc n) f c clean root kept =
      let formed = comes_formed task n c.0 c.1 in
      let lower : IsKept task c.0 holds = kept_down c.0 f formed c.4.formed c.4.above clean kept in
      next_holds c.0 f c.4 lower (all_hold n c.0 c.1 c.2.faultless root lower)

pub rounds_are_reached : RoundsAreReached
rounds_are_reached task n f holds c clean root kept m has = all_hold task holds n f c clean root kept m has
