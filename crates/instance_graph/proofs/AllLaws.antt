-- The laws, each under the name of its public function. Crates above cite them from here.
use Rattle.std.proofs.Common.{◌≡◌, ℕ, ◌+◌, ◌≤◌, ◌<◌, Some, None, List, [], ◌∷◌, slice_index, slice_get, refl, sym, ap, ◌∙◌, subst, arith, ◌⊎◌}
use Rattle.std.proofs.lemmas.Grind.{same_number_lists}
use Rattle.instance_graph.specs.declared.graph.Entered.{Entered}
use Rattle.instance_graph.specs.declared.graph.GraphInst.{GraphInst}
use Rattle.instance_graph.specs.declared.graph.Link.{Link}
use Rattle.instance_graph.specs.declared.graph.ClosedNode.{ClosedNode}
use Rattle.instance_graph.specs.Chain.{IsChainFrom, ends, goes, IsFirst, IsDeepNode, IsDeepEdge, IsNodeUpTo, IsEdgeUpTo}
use Rattle.instance_graph.specs.Cycle.{IsNamed, group_of, number_of}
use Rattle.instance_graph.specs.Graph.{ReachesBy, once, more, AreGraphNeeds}
use Rattle.instance_graph.specs.Laws.{Nests, here, deeper, RanksRuleOutCycles, NeedsBoundNesting, LeastNeedsAreOne, EndsAt, ChainsReachTheNeed, ChainsAreOne}
use Rattle.instance_graph.proofs.SameEdges.{edges_same}
use Rattle.instance_graph.proofs.Walk.{no_cycle}

pub ranks_rule_out_cycles : RanksRuleOutCycles
ranks_rule_out_cycles = no_cycle

bounded : (back : ℕ) (gs : List GraphInst) (need : ℕ → ℕ) → AreGraphNeeds back gs need → (i depth : ℕ) → Nests back gs i depth → depth ≤ need i
bounded back gs need needs i depth (here _ p h) = needs.offsets i p h
bounded back gs need needs i depth (deeper _ below e h rest) =
    let a = needs.entered i e h in
    let b = bounded back gs need needs e.into below rest in
    omega arith

pub needs_bound_nesting : NeedsBoundNesting
needs_bound_nesting = bounded

-- ---- one answer
reaching : (gs : List GraphInst) (i j : ℕ) → ReachesBy gs i j → (inst : GraphInst) × (slice_get gs i ≡ Some inst)
reaching gs i j (once _ e enters) = (enters.inst, enters.is)
reaching gs i j (more _ _ e enters rest) = (enters.inst, enters.is)

both_first : (g g' n n' i j : ℕ) → (g < g') ⊎ ((g ≡ g') × ((n < n') ⊎ ((n ≡ n') × (i ≤ j)))) → (g' < g) ⊎ ((g' ≡ g) × ((n' < n) ⊎ ((n' ≡ n) × (j ≤ i)))) → i ≡ j
both_first g g' n n' i j a b = grind arith

named_one : (gs : List GraphInst) (a b : ℕ) → IsNamed gs a → IsNamed gs b → a ≡ b
named_one gs a b na nb =
    let ia = reaching gs a a na.reaches in
    let ib = reaching gs b b nb.reaches in
    both_first (group_of ia.0.key.kind) (group_of ib.0.key.kind) (number_of ia.0.key.kind ia.0.key.entry) (number_of ib.0.key.kind ib.0.key.entry) a b
    (na.first b ia.0 ib.0 nb.reaches ia.1 ib.1) (nb.first a ib.0 ia.0 na.reaches ib.1 ia.1)

pub answers_are_one : LeastNeedsAreOne
answers_are_one = record {
  ranks = λ back gs ranks needs ranks' needs' l l'. same_number_lists ranks ranks' (l.ranks_length ∙ sym l'.ranks_length) (λ k lt.
      let a = l.least_ranks (slice_index ranks') l'.are_ranks k (omega (arith, l.ranks_length)) in
      let b = l'.least_ranks (slice_index ranks) l.are_ranks k (omega (arith, l.ranks_length)) in
      omega (arith, a, b));
  needs = λ back gs ranks needs ranks' needs' l l'. same_number_lists needs needs' (l.needs_length ∙ sym l'.needs_length) (λ k lt.
      let a = l.least_needs (slice_index needs') l'.are_needs k (omega (arith, l.needs_length)) in
      let b = l'.least_needs (slice_index needs) l.are_needs k (omega (arith, l.needs_length)) in
      omega (arith, a, b));
  named = named_one;
}

-- ---- chains
ending : (back : ℕ) (gs : List GraphInst) (needs : List ℕ) (i above : ℕ) (links : List Link) → IsChainFrom back gs needs i above links → EndsAt links (above + slice_index needs i)
ending back gs needs i above links (ends _ _ p first) = record {
  front = [];
  end = record { inst = i; node = p.node; depth = above + p.offset; way = None };
  is = refl;
  last = refl;
  deep = omega (arith, first.is.1);
}
ending back gs needs i above links (goes _ _ e rest no_end first chain) =
    let below = ending back gs needs e.into (above + e.offset + back) rest chain in
    record {
      front = record { inst = i; node = e.node; depth = above + e.offset; way = Some e.way } ∷ below.front;
      end = below.end;
      is = ap (λ xs. record { inst = i; node = e.node; depth = above + e.offset; way = Some e.way } ∷ xs) below.is;
      last = below.last;
      deep = omega (arith, below.deep, first.is.1);
    }

nesting : (back : ℕ) (gs : List GraphInst) (needs : List ℕ) (i above : ℕ) (links : List Link) → IsChainFrom back gs needs i above links → Nests back gs i (slice_index needs i)
nesting back gs needs i above links (ends _ _ p first) = subst (Nests back gs i) first.is.1 (here i p first.is.0)
nesting back gs needs i above links (goes _ _ e rest no_end first chain) =
    subst (Nests back gs i) first.is.1 (deeper i (slice_index needs e.into) e first.is.0 (nesting back gs needs e.into (above + e.offset + back) rest chain))

pub chains_reach_the_need : ChainsReachTheNeed
chains_reach_the_need = record {
  ends = λ back gs needs links chain. subst (EndsAt links) (omega arith) (ending back gs needs 0 0 links chain);
  nests = λ back gs needs links chain. nesting back gs needs 0 0 links chain;
}

module _ (back : ℕ) (gs : List GraphInst) (needs : List ℕ) where
  nodes_same : (i : ℕ) (p q : ClosedNode) → IsFirst (IsDeepNode gs needs i) IsNodeUpTo p → IsFirst (IsDeepNode gs needs i) IsNodeUpTo q → p ≡ q
  nodes_same i p q f g =
      let nodes : p.node ≡ q.node = omega (arith, f.first q g.is, g.first p f.is) in
      let offsets : p.offset ≡ q.offset = f.is.1 ∙ sym g.is.1 in
      λ j. record { node = nodes j; offset = offsets j }

  ways_same : (i : ℕ) (e d : Entered) → IsFirst (IsDeepEdge back gs needs i) (IsEdgeUpTo gs) e → IsFirst (IsDeepEdge back gs needs i) (IsEdgeUpTo gs) d → e ≡ d
  ways_same i e d f g = edges_same back gs needs e d (slice_index needs i) (f.first d g.is) (g.first e f.is) f.is.1 g.is.1

  one : (i i' above above' : ℕ) → i ≡ i' → above ≡ above' → (links links' : List Link) → IsChainFrom back gs needs i above links → IsChainFrom back gs needs i' above' links' → links ≡ links'
  one i i' above above' ei ea links links' (ends _ _ p f) (ends _ _ q g) =
      let same = nodes_same i p q f (subst (λ k. IsFirst (IsDeepNode gs needs k) IsNodeUpTo q) (sym ei) g) in
      λ j. record { inst = ei j; node = (same j).node; depth = ea j + (same j).offset; way = None } ∷ []
  one i i' above above' ei ea links links' (ends _ _ p f) (goes _ _ d rest' no_end g chain') =
      absurd (no_end p (subst (λ k. IsDeepNode gs needs k p) ei f.is))
  one i i' above above' ei ea links links' (goes _ _ e rest no_end f chain) (ends _ _ q g) =
      absurd (no_end q (subst (λ k. IsDeepNode gs needs k q) (sym ei) g.is))
  one i i' above above' ei ea links links' (goes _ _ e rest no_end f chain) (goes _ _ d rest' no_end' g chain') =
      let same = ways_same i e d f (subst (λ k. IsFirst (IsDeepEdge back gs needs k) (IsEdgeUpTo gs) d) (sym ei) g) in
      let tail = one e.into d.into (above + e.offset + back) (above' + d.offset + back) (ap (λ x. x.into) same) (λ j. ea j + (same j).offset + back) rest rest' chain chain' in
      λ j. record { inst = ei j; node = (same j).node; depth = ea j + (same j).offset; way = Some (same j).way } ∷ tail j

pub chains_are_one : ChainsAreOne
chains_are_one = λ back gs needs links links' a b. one back gs needs 0 0 0 0 refl refl links links' a b
