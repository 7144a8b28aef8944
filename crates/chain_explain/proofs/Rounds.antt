-- If the rounds end with a certificate, the root's least need over the reached nodes is its bound.
use Rattle.std.proofs.Common.{◌≡◌, refl, sym, ap, ◌∙◌, subst, ℕ, zero, suc, ◌+◌, ◌≤◌, inl, inr, ⊎_elim, Bool, true, false, cond, List, [], ◌∷◌, length, Some, slice_get, slice_index, Contains, arith}
use Rattle.std.specs.List.{AllByRecursion}
use Rattle.std.specs.List.Sorted.{IsStrictlySortedBy}
use Rattle.std.proofs.lemmas.List.{length-map}
use Rattle.std.specs.declared.cmp.Ordering.TheVariants.{Less}
use Rattle.std.proofs.lemmas.Option.{none-some, same_Some}
use Rattle.basics.specs.Items.{place_of_contained, none_in, first_in, further_in, first_or_further}
use Rattle.abs_state.specs.Frames.{entered}
use Rattle.avr_model.specs.Devices.{device_of, back_of}
use Rattle.node_keys.specs.declared.keys.InstKey.{InstKey}
use Rattle.node_keys.specs.declared.keys.NodeKey.{NodeKey}
use Rattle.node_keys.specs.declared.keys.EdgeKind.{EdgeKind}
use Rattle.node_keys.specs.declared.keys.SpForm.TheVariants.{Closed}
use Rattle.node_keys.specs.Keys.{root_inst, entry_key, offset_of}
use Rattle.node_keys.specs.Order.{inst_cmp, same_inst, same_node}
use Rattle.node_keys.proofs.AllLaws.{keys_are_ordered}
use Rattle.local_rules.specs.declared.local.Node.{Node}
use Rattle.local_laws.specs.Laws.{HasKey}
use Rattle.edge_rules.specs.declared.edge.Edge.{Edge}
use Rattle.edge_rules.specs.Edges.{Enters, by_call, by_interrupt, IsEdge, entering}
use Rattle.edge_rules.specs.Nest.{NestEdge, recurs, enters as by_node}
use Rattle.edge_rules.specs.Views.{key_of}
use Rattle.edge_rules.specs.Expansion.{IsFilled}
use Rattle.edge_laws.specs.Expansions.{FilledOrMissing}
use Rattle.instance_graph.specs.declared.graph.Entered.{Entered}
use Rattle.instance_graph.specs.declared.graph.GraphInst.{GraphInst}
use Rattle.instance_graph.specs.declared.graph.ClosedNode.{ClosedNode}
use Rattle.instance_graph.specs.declared.graph.GraphWay.TheVariants.{Recur}
use Rattle.instance_graph.specs.declared.graph.GraphWay.TheVariants.{Enters as Enters_by}
use Rattle.instance_graph.specs.Least.{IsLeast}
use Rattle.family_graph.specs.Graphs.{insts_of, IsGraphOf}
use Rattle.certificate.specs.Claims.{Claim}
use Rattle.round_rules.specs.Families.{Family, nodes_of, FamilyHas}
use Rattle.round_rules.specs.Rounds.{AreNeeds}
use Rattle.round_rules.specs.Refusals.{IsSolved}
use Rattle.round_laws.proofs.AllLaws.{has_member, member_has}
use Rattle.round_laws.specs.Reached.{IsKept, RoundsAreReached}
use Rattle.family_graph.specs.Chains.{BeginsAtRoot}
use Rattle.chain_explain.specs.declared.explanation.Explanation.{Explanation}
use Rattle.chain_explain.specs.Reached.{IsReached, AreReached, at_reset, by_edge}
use Rattle.chain_explain.specs.Explanation.{Explains}
use Rattle.chain_explain.specs.Told.{IsOfRounds}
use Rattle.local_rules.specs.Site.{Task}

-- ---- whether a node of the list has the key

abbrev is_held : List Node → NodeKey → Bool
is_held [] k = false
is_held (n ∷ nodes) k = cond (same_node n.key k) true (is_held nodes k)

held_has : (nodes : List Node) (k : NodeKey) → is_held nodes k ≡ true → HasKey nodes k
held_has [] k h = absurd cc
held_has (n ∷ nodes) k h = by (held_has nodes k) (same_node n.key k) refl h
  where
    by : (is_held nodes k ≡ true → HasKey nodes k) → (b : Bool) → same_node n.key k ≡ b → cond b true (is_held nodes k) ≡ true → HasKey (n ∷ nodes) k
    by rest true is e = (n, (first_in n nodes, (keys_are_ordered.same_nodes n.key k).0 is))
    by rest false is e = let w = rest e in (w.0, (further_in n w.0 nodes w.1.0, w.1.1))

has_held : (nodes : List Node) (k : NodeKey) → HasKey nodes k → is_held nodes k ≡ true
has_held [] k h = absurd (none_in h.0 h.1.0)
has_held (n ∷ nodes) k h = by (has_held nodes k) (same_node n.key k) refl
  where
    by : (HasKey nodes k → is_held nodes k ≡ true) → (b : Bool) → same_node n.key k ≡ b → cond b true (is_held nodes k) ≡ true
    by rest true is = refl
    by rest false is =
        ⊎_elim (λ e. absurd (let up = (keys_are_ordered.same_nodes n.key k).1 (ap key_of (sym e) ∙ h.1.1) in cc)) (λ i. rest (h.0, (i, h.1.1)))
        (first_or_further n h.0 nodes h.1.0)

-- ---- the value of an instance by its number, and 0 where it has none

abbrev valued : List InstKey → List ℕ → InstKey → ℕ
valued [] xs inst = 0
valued (k ∷ ks) [] inst = 0
valued (k ∷ ks) (x ∷ xs) inst = cond (same_inst k inst) x (valued ks xs inst)

not_itself : (a b : InstKey) → inst_cmp a b ≡ Less → a ≡ b → ⊥
not_itself a b lt e = let same = (keys_are_ordered.equal_insts a b).1 e in cc

all_at : (P : InstKey → Type 0) (ks : List InstKey) (j : ℕ) (k : InstKey) → AllByRecursion P ks → slice_get ks j ≡ Some k → P k
all_at P [] j k h e = absurd (none-some k e)
all_at P (x ∷ xs) zero k h e = subst P (same_Some x k e) h.0
all_at P (x ∷ xs) (suc j) k h e = all_at P xs j k h.1 e

valued_at : (ks : List InstKey) (xs : List ℕ) (i : ℕ) (inst : InstKey) → IsStrictlySortedBy inst_cmp ks → length xs ≡ length ks → slice_get ks i ≡ Some inst
    → valued ks xs inst ≡ slice_index xs i
unfolding IsStrictlySortedBy
valued_at [] xs i inst s same e = absurd (none-some inst e)
valued_at (k ∷ ks) [] i inst s same e = absurd (omega (arith, same))
valued_at (k ∷ ks) (x ∷ xs) zero inst s same e = by (same_inst k inst) refl
  where
    by : (b : Bool) → same_inst k inst ≡ b → cond b x (valued ks xs inst) ≡ x
    by true is = refl
    by false is = absurd (let up = (keys_are_ordered.same_insts k inst).1 (same_Some k inst e) in cc)
valued_at (k ∷ ks) (x ∷ xs) (suc i) inst s same e = by (valued_at ks xs i inst s.1 (omega (arith, same)) e) (same_inst k inst) refl
  where
    by : valued ks xs inst ≡ slice_index xs i → (b : Bool) → same_inst k inst ≡ b → cond b x (valued ks xs inst) ≡ slice_index xs i
    by rest true is = absurd (not_itself k inst (all_at (λ y. inst_cmp k y ≡ Less) ks i inst s.0 e) ((keys_are_ordered.same_insts k inst).0 is))
    by rest false is = rest

module _ (task : Task) (f : Family) (n : ℕ) (solved : IsSolved task n f) (law : RoundsAreReached) (reached : List Node)
    (are : AreReached task (nodes_of f) reached) (reset : HasKey (nodes_of f) (entry_key root_inst)) where
  -- the target of an edge of the family is in it
  lands_at : (m : Node) (e : Edge) → FamilyHas f m → IsEdge task (nodes_of f) m e → HasKey (nodes_of f) e.to
  lands_at m e has is =
      let l = solved.closed m e has is in
      let to : Node = record { key = e.to; state = l.at } in
      (to, (member_has f to l.is, refl))

  into_reached : (k : NodeKey) → HasKey (nodes_of f) k → IsReached task (nodes_of f) k → HasKey reached k
  into_reached k h r = (h.0, ((are.exact h.0).1 (h.1.0, subst (IsReached task (nodes_of f)) (sym h.1.1) r), h.1.1))

  kept : IsKept task f (is_held reached)
  kept m e has held is =
      let h = held_has reached m.key held in
      let r : IsReached task (nodes_of f) m.key = subst (IsReached task (nodes_of f)) h.1.1 ((are.exact h.0).0 h.1.0).1 in
      has_held reached e.to (into_reached e.to (lands_at m e has is) (by_edge m e (member_has f m has) r is))

  -- each node of the family is reached
  all_reached : (m : Node) → FamilyHas f m → Contains reached m
  all_reached m has =
      let held = law task n f (is_held reached) solved.comes solved.passes.faultless (has_held reached (entry_key root_inst) (into_reached (entry_key root_inst) reset at_reset)) kept m has in
      let h = held_has reached m.key held in
      let r : IsReached task (nodes_of f) m.key = subst (IsReached task (nodes_of f)) h.1.1 ((are.exact h.0).0 h.1.0).1 in
      (are.exact m).1 (member_has f m has, r)

  module _ (gs : List GraphInst) (ranks needs : List ℕ) (family : IsGraphOf task reached gs) (least : IsLeast (back_of (device_of task.flash)) gs ranks needs) (root : slice_get (insts_of gs) 0 ≡ Some root_inst) where
    abbrev need : InstKey → ℕ
    need inst = valued (insts_of gs) needs inst

    need_at : (i : ℕ) (inst : InstKey) → slice_get (insts_of gs) i ≡ Some inst → need inst ≡ slice_index needs i
    need_at i inst e = valued_at (insts_of gs) needs i inst family.ascending (least.needs_length ∙ sym (length-map gs (λ g. g.key))) e

    number : (m : Node) → FamilyHas f m → (i : ℕ) × (slice_get (insts_of gs) i ≡ Some m.key.inst)
    number m has = place_of_contained (insts_of gs) m.key.inst ((family.insts m.key.inst).1 (m, all_reached m has, refl))

    closed_by : (m : Node) (way : EdgeKind) (inst : InstKey) (back : ℕ) → Enters task m way inst back → (offset : ℕ) × (m.key.sp ≡ Closed offset)
    closed_by m _ _ _ (by_call offset site clean closed has) = (offset, closed)
    closed_by m _ _ _ (by_interrupt offset v clears clean closed i d enabled allowed may) = (offset, closed)

    suffice : AreNeeds task f need
    suffice =
        record {
          offsets = λ m offset has closed.
              let i = number m has in
              let at = place_of_contained reached m (all_reached m has) in
              let p : ClosedNode = record { node = at.0; offset = offset } in
              let stands = (family.closed i.0 p).1 (record { inst = m.key.inst; is = i.1; of = record { node = m; at = at.1; same = refl; closed = closed } }) in
              let enough = least.are_needs.offsets i.0 p stands in
              let e = need_at i.0 m.key.inst i.1 in
              omega (arith, enough, e);
          entered = below;
        }
      where
        below : (a b : InstKey) (offset : ℕ) → NestEdge task (FamilyHas f) a b offset → offset + back_of (device_of task.flash) + need b ≤ need a
        below a b offset (by_node n way back has same is_at e whole) =
            let i = number n has in
            let at = place_of_contained reached n (all_reached n has) in
            let c = closed_by n way b back e in
            let to = lands_at n (record { kind = way; to = entry_key b; state = entered n.state }) has (entering way b back e) in
            let j : (x : ℕ) × (slice_get (insts_of gs) x ≡ Some b) =
            place_of_contained (insts_of gs) b ((family.insts b).1 (to.0, all_reached to.0 (has_member f to.0 to.1.0), ap (λ (k : NodeKey). k.inst) to.1.1)) in
            let edge : Entered = record { node = at.0; offset = c.0; way = Enters_by way; into = j.0 } in
            let along = (family.entered i.0 edge).1 (record {
              inst = n.key.inst;
              is = i.1;
              into = b;
              leads = j.1;
              edge = inl (record { node = n; at = at.1; same = refl; closed = c.1; kind = way; way = refl; back = back; enters = e; whole = whole });
            }) in
            let enough = least.are_needs.entered i.0 edge along in
            let o : c.0 ≡ offset = ap offset_of (sym c.1) ∙ is_at in
            let from : need a ≡ slice_index needs i.0 = ap need (sym same) ∙ need_at i.0 n.key.inst i.1 in
            let into : need b ≡ slice_index needs j.0 = need_at j.0 b j.1 in
            omega (arith, enough, o, from, into)
        below a b offset (recurs n has same cut top) =
            let j : (x : ℕ) × (slice_get (insts_of gs) x ≡ Some b) = place_of_contained (insts_of gs) b ((family.insts b).1 (n, all_reached n has, same)) in
            let at : slice_get (insts_of gs) 0 ≡ Some a = subst (λ (k : InstKey). slice_get (insts_of gs) 0 ≡ Some k) (sym top) root in
            let edge : Entered = record { node = length reached; offset = offset; way = Recur; into = j.0 } in
            let along = (family.entered 0 edge).1 (record { inst = a; is = at; into = b; leads = j.1; edge = inr (record { root = top; way = refl; behind = refl; cut = cut }) }) in
            let enough = least.are_needs.entered 0 edge along in
            let from : need a ≡ slice_index needs 0 = need_at 0 a at in
            let into : need b ≡ slice_index needs j.0 = need_at j.0 b j.1 in
            omega (arith, enough, from, into)

-- the explanation's number is the bound if the rounds end with the certificate
pub least_is_bound : FilledOrMissing → RoundsAreReached → (task : Task) (c : Claim) (nodes : List Node) (x : Explanation) → IsFilled task c.nodes nodes
    → HasKey nodes (entry_key root_inst) → (e : Explains task nodes x) → BeginsAtRoot task e.reached → x.least ≤ c.bound → IsOfRounds task c → x.least ≡ c.bound
least_is_bound filled law task c nodes x is reset e root under of =
    let answer = of.answer in
    let same : nodes ≡ nodes_of answer.family =
    filled.one task c.nodes nodes (nodes_of answer.family) is (subst (λ ns. IsFilled task ns (nodes_of answer.family)) (sym of.nodes) answer.solution.expands) in
    let are = subst (λ (ns : List Node). AreReached task ns e.reached) same e.are_reached in
    let first = subst (λ (ns : List Node). HasKey ns (entry_key root_inst)) same reset in
    let d = e.deepest in
    let suffices = suffice task answer.family answer.number answer.solved law e.reached are first d.graph d.ranks d.needs d.family d.least (root d.graph d.family) in
    let low = answer.solution.least_needs (valued (insts_of d.graph) d.needs) suffices root_inst in
    let at : valued (insts_of d.graph) d.needs root_inst ≡ slice_index d.needs 0 =
    need_at task answer.family answer.number answer.solved law e.reached are first d.graph d.ranks d.needs d.family d.least (root d.graph d.family) 0 root_inst (root d.graph d.family) in
    let r = d.root in
    let b = of.bound ∙ answer.solution.bound in
    omega (arith, low, at, r, b, under)
