-- If no closed node and no edge is as deep as the need, the need is not the least.
use Rattle.std.proofs.Common.{◌≡◌, ℕ, ◌+◌, ◌-◌, ◌<◌, ◌≤◌, Bool, true, false, eqb, Option, Some, None, List, length, slice_index, refl, sym, subst, arith, ⊎_elim, slice_get}
use Rattle.std.specs.List.{Contains}
use Rattle.std.proofs.lemmas.Bool.{cases_eq, eqb-true}
use Rattle.std.proofs.lemmas.Bool.Decides.{nat_tests}
use Rattle.instance_graph.specs.declared.graph.Entered.{Entered}
use Rattle.instance_graph.specs.declared.graph.GraphInst.{GraphInst}
use Rattle.instance_graph.specs.declared.graph.ClosedNode.{ClosedNode}
use Rattle.instance_graph.specs.Graph.{EntersAlong, HasClosedNode, AreGraphNeeds}
use Rattle.instance_graph.specs.Chain.{IsFirst, IsNodeUpTo, IsEdgeUpTo, IsDeepNode, IsDeepEdge, HasSome}
use Rattle.instance_graph.specs.Turn.{AreLeastNeeds, IsBestNode, IsBestEdge}

abbrev pick : Bool → ℕ → ℕ → ℕ
pick true a b = a
pick false a b = b

-- these needs, with that of instance i one less
abbrev lowered : ℕ → (ℕ → ℕ) → ℕ → ℕ
lowered i need j = pick (eqb j i) (need j - 1) (need j)

itself : (i : ℕ) → eqb i i ≡ true
itself i = grind (arith, nat_tests)

picked : (b : Bool) (a c : ℕ) → a ≤ c → pick b a c ≤ c
picked true a c le = le
picked false a c le = omega arith

module _ (back : ℕ) (gs : List GraphInst) (needs : List ℕ) (least : AreLeastNeeds back gs needs) (i : ℕ) (inside : i < length gs) (no_node : (p : ClosedNode) → IsDeepNode gs needs i p → ⊥) (no_edge : (e : Entered) → IsDeepEdge back gs needs i e → ⊥) where
  abbrev need : ℕ → ℕ
  need = slice_index needs

  at_most : (j : ℕ) → lowered i need j ≤ need j
  at_most j = picked (eqb j i) (need j - 1) (need j) (omega arith)

  node_below : (p : ClosedNode) → HasClosedNode gs i p → p.offset < need i
  node_below p h =
      let le = least.are.offsets i p h in
      ⊎_elim (λ same. absurd (no_node p (h, same))) (λ other. omega (arith, le, other)) (cases_eq p.offset (need i))

  edge_below : (e : Entered) → EntersAlong gs i e → e.offset + back + need e.into < need i
  edge_below e h =
      let le = least.are.entered i e h in
      ⊎_elim (λ same. absurd (no_edge e (h, same))) (λ other. omega (arith, le, other)) (cases_eq (e.offset + back + need e.into) (need i))

  lower_at : (j m : ℕ) → m ≤ need j → (j ≡ i → m < need j) → m ≤ lowered i need j
  lower_at j m le strict = by (eqb j i) (λ e. strict (eqb-true j i e))
    where
      by : (b : Bool) → (b ≡ true → m < need j) → m ≤ pick b (need j - 1) (need j)
      by true lt = omega (arith, lt refl)
      by false lt = le

  lowered_needs : AreGraphNeeds back gs (lowered i need)
  lowered_needs = record {
    offsets = λ j p h. lower_at j p.offset (least.are.offsets j p h) (λ same. subst (λ k. p.offset < need k) (sym same) (node_below p (subst (λ k. HasClosedNode gs k p) same h)));
    entered = λ j e h.
        let le = least.are.entered j e h in
        let into = at_most e.into in
        lower_at j (e.offset + back + lowered i need e.into) (omega arith) (λ same.
        let lt : e.offset + back + need e.into < need j = subst (λ k. e.offset + back + need e.into < need k) (sym same) (edge_below e (subst (λ k. EntersAlong gs k e) same h)) in
        omega arith);
  }

  lowered_here : lowered i need i ≡ need i - 1
  lowered_here = by (eqb i i) (itself i)
    where
      by : (b : Bool) → b ≡ true → pick b (need i - 1) (need i) ≡ need i - 1
      by true e = refl
      by false e = absurd (let e' = e in cc)

  pub some_is_deep : HasSome gs i → ⊥
  some_is_deep some =
      let lt = node_below some.0 some.1 in
      let le = least.least (lowered i need) lowered_needs i inside in
      absurd (omega (arith, lt, le, lowered_here))

-- ---- from the lists of an instance to the graph
module _ (back : ℕ) (gs : List GraphInst) (needs : List ℕ) (i : ℕ) (here : GraphInst) (is : slice_get gs i ≡ Some here) where
  in_nodes : (p : ClosedNode) → HasClosedNode gs i p → Contains here.offsets p
  in_nodes p h = let same : h.inst ≡ here = let a = h.is in cc in subst (λ x. Contains x.offsets p) same h.has

  in_edges : (e : Entered) → EntersAlong gs i e → Contains here.entered e
  in_edges e h = let same : h.inst ≡ here = let a = h.is in cc in subst (λ x. Contains x.entered e) same h.has

  pub no_deep_node : (ps : List ClosedNode) (best : Option ClosedNode) → ps ≡ here.offsets → best ≡ None → IsBestNode (slice_index needs i) ps best → (p : ClosedNode) → IsDeepNode gs needs i p → ⊥
  no_deep_node ps best same none best_is p h = (subst (IsBestNode (slice_index needs i) ps) none best_is) p (subst (λ xs. Contains xs p) (sym same) (in_nodes p h.0)) h.1

  pub no_deep_edge : (es : List Entered) (best : Option Entered) → es ≡ here.entered → best ≡ None → IsBestEdge back gs needs (slice_index needs i) es best → (e : Entered) → IsDeepEdge back gs needs i e → ⊥
  no_deep_edge es best same none best_is e h = (subst (IsBestEdge back gs needs (slice_index needs i) es) none best_is) e (subst (λ xs. Contains xs e) (sym same) (in_edges e h.0)) h.1

  pub least_node : (ps : List ClosedNode) (best : Option ClosedNode) (p : ClosedNode) → ps ≡ here.offsets → best ≡ Some p → IsBestNode (slice_index needs i) ps best → IsFirst (IsDeepNode gs needs i) IsNodeUpTo p
  least_node ps best p same some best_is =
      let f = subst (IsBestNode (slice_index needs i) ps) some best_is in
      record {
        is = (record { inst = here; is = is; has = subst (λ xs. Contains xs p) same f.is.0 }, f.is.1);
        first = λ q h. f.first q (subst (λ xs. Contains xs q) (sym same) (in_nodes q h.0), h.1);
      }

  pub first_edge : (es : List Entered) (best : Option Entered) (e : Entered) → es ≡ here.entered → best ≡ Some e → IsBestEdge back gs needs (slice_index needs i) es best → IsFirst (IsDeepEdge back gs needs i) (IsEdgeUpTo gs) e
  first_edge es best e same some best_is =
      let f = subst (IsBestEdge back gs needs (slice_index needs i) es) some best_is in
      record {
        is = (record { inst = here; is = is; has = subst (λ xs. Contains xs e) same f.is.0 }, f.is.1);
        first = λ d h. f.first d (subst (λ xs. Contains xs d) (sym same) (in_edges d h.0), h.1);
      }
