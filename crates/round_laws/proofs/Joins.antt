-- Joining nodes into a family one after the other gives the next one.
use Rattle.std.proofs.Common.{◌≡◌, Bool, refl, sym, ap, ◌∙◌, subst, ◌*◌, ◌<◌, ◌≤◌, cond, ◌⊎◌, inl, inr, ⊎_elim, List, [], ◌∷◌, map, Option, Some, None, Contains, arith}
use Rattle.std.specs.declared.cmp.Ordering.TheVariants.{Less, Equal, Greater}
use Rattle.std.specs.Ordering.{is_eq}
use Rattle.std.specs.FinMap.{get, insert, entries, get-entries, entries-insert, same_map}
use Rattle.std.specs.FinMap.Entries.{find, put, by_order}
use Rattle.basics.specs.Items.{none_in, first_in, further_in as there}
use Rattle.std.proofs.lemmas.Option.{same_Some}
use Rattle.avr_model.specs.declared.device.Device.{Device}
use Rattle.avr_model.specs.Assumptions.{has_pairs}
use Rattle.avr_model.specs.Devices.{device_of}
use Rattle.abs_state.specs.declared.state.AbsState.{AbsState}
use Rattle.abs_state.specs.Order.{IsStateWithin, IsLeastAbove, state_join}
use Rattle.abs_state.proofs.AllLaws.{states_are_ordered, joins_are_formed}
use Rattle.node_keys.specs.declared.keys.NodeKey.{NodeKey}
use Rattle.node_keys.specs.Keys.{offset_of}
use Rattle.node_keys.specs.Order.{node_cmp}
use Rattle.node_keys.specs.Total.{node_total}
use Rattle.node_keys.proofs.AllLaws.{keys_are_ordered}
use Rattle.local_rules.specs.declared.local.Node.{Node}
use Rattle.local_rules.specs.Cover.{IsNodeIn}
use Rattle.local_laws.specs.Laws.{AreNodesIn}
use Rattle.local_rules.specs.Local.{place_by, placed, joined_onto}
use Rattle.local_laws.proofs.AllLaws.{joins_are_least, each_of}
use Rattle.edge_rules.specs.Edges.{target}
use Rattle.edge_rules.specs.Families.{IsCovered}
use Rattle.abs_state.specs.Rank.{state_rank}
use Rattle.edge_laws.specs.Laws.{with_state}
use Rattle.abs_state.proofs.AllLaws.{states_rise}
use Rattle.round_rules.specs.Families.{Family, node_of, Lands, Below, AreFormed}
use Rattle.certificate.specs.Claims.{cells_of}
use Rattle.round_rules.specs.Rounds.{IsNext}
use Rattle.round_laws.specs.Steps.{joined_with, raised, raised_all, IsRoundOf, AreJoined, weight_of, weight}
use Rattle.round_laws.specs.Laws.{RoundsAreJoins}
use Rattle.round_laws.proofs.Keys.{node_exact, at_keys, get_same, get_other}
use Rattle.round_laws.proofs.Least.{lands_up, formed_nodes}
use Rattle.local_rules.specs.Site.{Task}

-- ---- one join

join_node : {device : Device} {followed : Bool} (k : NodeKey) (s t : AbsState) → IsNodeIn device followed k s → IsNodeIn device followed k t → IsNodeIn device followed k (state_join s t)
unfolding joined_onto placed
join_node {device = device} {followed = followed} k s t a b =
    let m : Node = record { key = k; state = s } in
    let n : Node = record { key = k; state = t } in
    let j : Node = record { key = k; state = state_join s t } in
    let are : AreNodesIn device followed (m ∷ n ∷ []) = each_of (λ x. IsNodeIn device followed x.key x.state) m (n ∷ []) a (each_of (λ x. IsNodeIn device followed x.key x.state) n [] b (λ x i. absurd (none_in x i))) in
    let is : joined_onto [] (m ∷ n ∷ []) ≡ j ∷ [] = ap (λ o. place_by o n m [] (placed n [])) ((keys_are_ordered.equal_nodes k k).1 refl) in
    joins_are_least.nodes (m ∷ n ∷ []) are j (subst (λ (l : List Node). Contains l j) (sym is) (first_in j []))

join_least : {device : Device} {followed : Bool} (k : NodeKey) (s t : AbsState) → IsNodeIn device followed k s → IsNodeIn device followed k t → IsLeastAbove s t (state_join s t)
join_least k s t a b = states_are_ordered.join s t (joins_are_formed.whole s (offset_of k.sp) a.formed) (joins_are_formed.whole t (offset_of k.sp) b.formed) (a.formed.count_slots ∙ sym b.formed.count_slots)

-- g is f with the state v at the node's key
module _ {device : Device} {followed : Bool} (f : Family) (n : Node) (formed : AreFormed device followed f) (node : IsNodeIn device followed n.key n.state) where
  -- the state at the key
  record IsPut (v : AbsState) : Type 0 where
    good : IsNodeIn device followed n.key v
    old : (t : AbsState) → get f n.key ≡ Some t → IsStateWithin t v
    new : IsStateWithin n.state v
    least : (u : AbsState) → ((t : AbsState) → get f n.key ≡ Some t → IsStateWithin t u) → IsStateWithin n.state u → IsStateWithin v u

  put_is : (o : Option AbsState) → get f n.key ≡ o → IsPut (joined_with o n.state)
  put_is None e = record {
    good = node;
    old = λ t is. absurd (let never = sym e ∙ is in cc);
    new = states_are_ordered.same n.state;
    least = λ u olds new. new;
  }
  put_is (Some t) e =
      let at = formed (with_state n t) e in
      let j = join_least n.key t n.state at node in
      record {
        good = join_node n.key t n.state at node;
        old = λ s is. subst (λ x. IsStateWithin x (state_join t n.state)) (same_Some t s (sym e ∙ is)) j.first;
        new = j.second;
        least = λ u olds new. j.least u (olds t e) new;
      }

  abbrev v : AbsState
  v = joined_with (get f n.key) n.state

  is_put : IsPut v
  is_put = put_is (get f n.key) refl

  raised_formed : AreFormed device followed (raised f n)
  raised_formed m has =
      at_keys (λ q. (s : AbsState) → get (raised f n) q ≡ Some s → IsNodeIn device followed q s) n.key m.key
      (λ s e. subst (IsNodeIn device followed n.key) (same_Some v s (sym (get_same f n.key v) ∙ e)) is_put.good)
      (λ ne s e. formed (record { key = m.key; state = s }) (sym (get_other f n.key v m.key ne) ∙ e)) m.state has

  raised_above : Below f (raised f n)
  raised_above m has =
      at_keys (λ q. (s : AbsState) → get f q ≡ Some s → Lands (raised f n) (record { key = q; state = s })) n.key m.key
      (λ s e. record { at = v; is = get_same f n.key v; above = is_put.old s e })
      (λ ne s e. record { at = s; is = get_other f n.key v m.key ne ∙ e; above = states_are_ordered.same s }) m.state has

  raised_lands : Lands (raised f n) n
  raised_lands = record { at = v; is = get_same f n.key v; above = is_put.new }

  raised_least : (h : Family) → Below f h → Lands h n → Below (raised f n) h
  raised_least h up lands m has =
      at_keys (λ q. (s : AbsState) → get (raised f n) q ≡ Some s → Lands h (record { key = q; state = s })) n.key m.key
      (λ s e.
      let is = same_Some v s (sym (get_same f n.key v) ∙ e) in
      let over : (t : AbsState) → get f n.key ≡ Some t → IsStateWithin t lands.at = λ t there.
      let l = up (with_state n t) there in subst (IsStateWithin t) (same_Some l.at lands.at (sym l.is ∙ lands.is)) l.above in
      record { at = lands.at; is = lands.is; above = subst (λ x. IsStateWithin x lands.at) is (is_put.least lands.at over lands.above) })
      (λ ne s e. up (record { key = m.key; state = s }) (sym (get_other f n.key v m.key ne) ∙ e)) m.state has

-- ---- several joins

below_itself : (f : Family) → Below f f
below_itself f n has = record { at = n.state; is = has; above = states_are_ordered.same n.state }

all_joined : {device : Device} {followed : Bool} (ns : List Node) (f : Family) → AreFormed device followed f → AreNodesIn device followed ns → AreJoined device followed f ns (raised_all f ns)
all_joined [] f formed nodes = record {
  formed = formed;
  above = below_itself f;
  lands = λ to i. absurd (none_in to i);
  least = λ h up lands. up;
}
all_joined (n ∷ ns) f formed nodes =
    let node = nodes n (first_in n ns) in
    let rest = all_joined ns (raised f n) (raised_formed f n formed node) (λ to i. nodes to (there n to ns i)) in
    record {
      formed = rest.formed;
      above = λ m has. lands_up (raised f n) (raised_all (raised f n) ns) m rest.above (raised_above f n formed node m has);
      lands = each_of (Lands (raised_all (raised f n) ns)) n ns (lands_up (raised f n) (raised_all (raised f n) ns) n rest.above (raised_lands f n formed node)) rest.lands;
      least = λ h up lands. rest.least h (raised_least f n formed node h up (lands n (first_in n ns))) (λ to i. lands to (there n to ns i));
    }

covered_up : (g : Family) (ns : List Node) (to : Node) → ((x : Node) → Contains ns x → Lands g x) → IsCovered ns to → Lands g to
covered_up g ns to lands c =
    let l = lands (with_state to c.state) c.present in
    record { at = l.at; is = l.is; above = states_are_ordered.through to.state c.state l.at c.above l.above }

next_is : (task : Task) (f : Family) (ns : List Node) → AreFormed (device_of task.flash) (has_pairs task.assumptions) f → IsRoundOf task f ns → IsNext task f (raised_all f ns)
next_is task f ns formed round =
    let g = raised_all f ns in
    let joined = all_joined ns f formed round.formed in
    record {
      formed = joined.formed;
      above = joined.above;
      edges = λ n e has edge. ⊎_elim (λ l. lands_up f g (target e) joined.above l) (covered_up g ns (target e) joined.lands) (round.all n e has edge);
      least = λ h up lands. joined.least h up (round.least h up lands);
    }

-- ---- how far up

pub found_here : (k : NodeKey) (e : NodeKey × AbsState) (es : List (NodeKey × AbsState)) → node_cmp k e.0 ≡ Equal → find node_cmp k (e ∷ es) ≡ Some e.1
found_here k e es p = ap (λ r. cond (is_eq r) (Some e.1) (find node_cmp k es)) p

pub found_later : (k : NodeKey) (e : NodeKey × AbsState) (es : List (NodeKey × AbsState)) → node_cmp k e.0 ≡ Greater → find node_cmp k (e ∷ es) ≡ find node_cmp k es
found_later k e es p = ap (λ r. cond (is_eq r) (Some e.1) (find node_cmp k es)) p

weight_more : (k : NodeKey) (v : AbsState) (es : List (NodeKey × AbsState)) → ((u : AbsState) → find node_cmp k es ≡ Some u → state_rank u < state_rank v)
    → weight_of es < weight_of (put node_cmp k v es)
weight_more k v [] up = omega arith
weight_more k v (e ∷ es) up =
    elim (node_cmp k e.0) as (λ r. node_cmp k e.0 ≡ r → weight_of (e ∷ es) < weight_of (by_order r ((k, v) ∷ e ∷ es) ((e.0, v) ∷ es) (e ∷ put node_cmp k v es))) [
      | Less ↦ λ p. omega arith
      | Equal ↦ λ p. omega (arith, up e.1 (found_here k e es p))
      | Greater ↦ λ p. omega (arith, weight_more k v es (λ u is. up u (found_later k e es p ∙ is)))
    ] refl

insert_more : (f : Family) (k : NodeKey) (v : AbsState) → ((u : AbsState) → get f k ≡ Some u → state_rank u < state_rank v) → weight f < weight (insert f k v)
insert_more f k v up =
    subst (λ es. weight f < weight_of es) (sym (entries-insert node_total f k v)) (weight_more k v (entries f) (λ u is. up u (get-entries f k ∙ is)))

pub insert_again : (f : Family) (k : NodeKey) (v : AbsState) → get f k ≡ Some v → insert f k v ≡ f
insert_again f k v is =
    same_map node_total node_exact (insert f k v) f
    (λ q. at_keys (λ q. get (insert f k v) q ≡ get f q) k q (get_same f k v ∙ sym is) (λ ne. get_other f k v q ne))

raised_rises : {device : Device} {followed : Bool} (f : Family) (n : Node) → AreFormed device followed f → IsNodeIn device followed n.key n.state → (raised f n ≡ f) ⊎ (weight f < weight (raised f n))
raised_rises f n formed node = by (get f n.key) refl
  where
    by : (o : Option AbsState) → get f n.key ≡ o → (insert f n.key (joined_with o n.state) ≡ f) ⊎ (weight f < weight (insert f n.key (joined_with o n.state)))
    by None e = inr (insert_more f n.key n.state (λ u is. absurd (let never = sym e ∙ is in cc)))
    by (Some t) e =
        let at = formed (with_state n t) e in
        let j = join_node n.key t n.state at node in
        ⊎_elim (λ same. inl (ap (insert f n.key) (sym same) ∙ insert_again f n.key t e))
        (λ lt. inr (insert_more f n.key (state_join t n.state) (λ u is. subst (λ x. state_rank x < state_rank (state_join t n.state)) (same_Some t u (sym e ∙ is)) lt)))
        (states_rise.rises t (state_join t n.state) (offset_of n.key.sp) at.formed j.formed (join_least n.key t n.state at node).first)

weight_high : {device : Device} {followed : Bool} (es : List (NodeKey × AbsState)) → AreNodesIn device followed (map node_of es) → weight_of es ≤ 1123085 * cells_of (map (λ (x : NodeKey × AbsState). x.0) es)
unfolding cells_of
weight_high [] nodes = omega arith
weight_high (e ∷ es) nodes =
    let node = nodes (node_of e) (first_in (node_of e) (map node_of es)) in
    omega (arith, states_rise.high e.1 (offset_of e.0.sp) node.formed, weight_high es (λ n i. nodes n (there (node_of e) n (map node_of es) i)))

pub rounds_are_joins : RoundsAreJoins
rounds_are_joins = record {
  next = next_is;
  joined = λ f ns formed nodes. all_joined ns f formed nodes;
  rises = raised_rises;
  high = λ f formed. weight_high (entries f) (formed_nodes f formed);
  formed = raised_formed;
}
