-- Tests over all closed nodes and edges of a graph.
use Rattle.std.proofs.Common.{◌≡◌, ℕ, ◌+◌, ◌<◌, ◌≤◌, Bool, true, false, Some, List, [], ◌∷◌, length, refl, sym, ap, ◌∙◌, subst, arith, slice_get, ⊎_elim}
use Rattle.std.specs.List.{Contains}
use Rattle.std.specs.Prelude.{◌==◌, not}
use Rattle.std.proofs.lemmas.Bool.Decides.{nat_tests}
use Rattle.basics.specs.Numbers.{before_or_last}
use Rattle.std.proofs.lemmas.Option.{slice_get_within}
use Rattle.instance_graph.specs.declared.graph.Entered.{Entered}
use Rattle.instance_graph.specs.declared.graph.GraphInst.{GraphInst}
use Rattle.instance_graph.specs.declared.graph.ClosedNode.{ClosedNode}
use Rattle.instance_graph.specs.Chain.{HasSome, HaveClosedNodes}
use Rattle.instance_graph.specs.Graph.{EntersAlong, HasClosedNode, IsGraph}

-- ---- one instance
pub some_node : (gs : List GraphInst) (i : ℕ) (here : GraphInst) (ps : List ClosedNode) → slice_get gs i ≡ Some here → ps ≡ here.offsets → (0 < length ps) → HasSome gs i
some_node gs i here [] is same lt = absurd (omega arith)
some_node gs i here (p ∷ ps) is same lt = (p, record { inst = here; is = is; has = subst (λ xs. Contains xs p) same (0, omega arith, refl) })

pub no_some_node : (gs : List GraphInst) (i : ℕ) (here : GraphInst) (ps : List ClosedNode) → slice_get gs i ≡ Some here → ps ≡ here.offsets → length ps ≡ 0 → HasSome gs i → ⊥
no_some_node gs i here ps is same none some =
    let h = some.1 in
    let inst : h.inst ≡ here = let a = h.is in cc in
    let size : length h.inst.offsets ≡ length ps = ap (λ x. length x.offsets) inst ∙ ap length (sym same) in
    absurd (let lt = h.has.1 in omega arith)

-- ---- all instances below i
pub record AreComposable (gs : List GraphInst) (i : ℕ) : Type 0 where
  pub nodes : (k : ℕ) (p : ClosedNode) → k < i → HasClosedNode gs k p → p.offset ≤ 32768
  pub edges : (k : ℕ) (e : Entered) → k < i → EntersAlong gs k e → (e.offset ≤ 32768) × (e.into < length gs)

module _ (gs : List GraphInst) (i : ℕ) (here : GraphInst) (is : slice_get gs i ≡ Some here) where
  node_of : (k : ℕ) (p : ClosedNode) → k ≡ i → HasClosedNode gs k p → Contains here.offsets p
  node_of k p same h = let inst : h.inst ≡ here = let a = subst (λ m. slice_get gs m ≡ Some h.inst) same h.is in cc in subst (λ x. Contains x.offsets p) inst h.has

  pub edge_of : (k : ℕ) (e : Entered) → k ≡ i → EntersAlong gs k e → Contains here.entered e
  edge_of k e same h = let inst : h.inst ≡ here = let a = subst (λ m. slice_get gs m ≡ Some h.inst) same h.is in cc in subst (λ x. Contains x.entered e) inst h.has

  pub composable_more : (ps : List ClosedNode) (es : List Entered) → ps ≡ here.offsets → es ≡ here.entered → ((p : ClosedNode) → Contains ps p → p.offset ≤ 32768) → ((e : Entered) → Contains es e → (e.offset ≤ 32768) × (e.into < length gs)) → AreComposable gs i → AreComposable gs (i + 1)
  composable_more ps es same_ps same_es low inside before = record {
    nodes = λ k p lt h. ⊎_elim (λ less. before.nodes k p less h) (λ same. low p (subst (λ xs. Contains xs p) (sym same_ps) (node_of k p same h))) (before_or_last k i lt);
    edges = λ k e lt h. ⊎_elim (λ less. before.edges k e less h) (λ same. inside e (subst (λ xs. Contains xs e) (sym same_es) (edge_of k e same h))) (before_or_last k i lt);
  }

  pub not_low : (ps : List ClosedNode) → ps ≡ here.offsets → (p : ClosedNode) → Contains ps p → 32768 < p.offset → IsGraph gs → ⊥
  not_low ps same p h high graph =
      let le = graph.offsets i p (record { inst = here; is = is; has = subst (λ xs. Contains xs p) same h }) in
      absurd (omega arith)

  pub not_inside : (es : List Entered) → es ≡ here.entered → (e : Entered) → Contains es e → ((e.offset ≤ 32768) × (e.into < length gs) → ⊥) → IsGraph gs → ⊥
  not_inside es same e h never graph =
      let en : EntersAlong gs i e = record { inst = here; is = is; has = subst (λ xs. Contains xs e) same h } in
      never (graph.edges i e en, graph.within i e en)

  pub leads_more : (es : List Entered) → es ≡ here.entered → ((e : Entered) → Contains es e → HasSome gs e.into) → ((k : ℕ) (e : Entered) → k < i → EntersAlong gs k e → HasSome gs e.into) → (k : ℕ) (e : Entered) → k < i + 1 → EntersAlong gs k e → HasSome gs e.into
  leads_more es same all before k e lt h = ⊎_elim (λ less. before k e less h) (λ at. all e (subst (λ xs. Contains xs e) (sym same) (edge_of k e at h))) (before_or_last k i lt)

  pub not_to_nodes : (es : List Entered) → es ≡ here.entered → (e : Entered) → Contains es e → (HasSome gs e.into → ⊥) → HaveClosedNodes gs → ⊥
  not_to_nodes es same e h never nodes = never (nodes.entered i e (record { inst = here; is = is; has = subst (λ xs. Contains xs e) same h }))

pub composable_upto : (gs : List GraphInst) (i : ℕ) → 0 < length gs → length gs ≤ 65537 → length gs ≤ i → AreComposable gs i → IsGraph gs
composable_upto gs i' some few le all = record {
  some = some;
  few = few;
  offsets = λ i p h. all.nodes i p (inside i h.inst h.is) h;
  edges = λ i e h. (all.edges i e (inside i h.inst h.is) h).0;
  within = λ i e h. (all.edges i e (inside i h.inst h.is) h).1;
}
  where
    inside : (k : ℕ) (x : GraphInst) → slice_get gs k ≡ Some x → k < i'
    inside k x is = omega (arith, le, slice_get_within gs k x is)

pub leads_upto : (gs : List GraphInst) (i : ℕ) → HasSome gs 0 → length gs ≤ i → ((k : ℕ) (e : Entered) → k < i → EntersAlong gs k e → HasSome gs e.into) → HaveClosedNodes gs
leads_upto gs i root le all = record { root = root; entered = λ k e h. all k e (omega (arith, le, slice_get_within gs k h.inst h.is)) h }

pub not_empty : (n : ℕ) (b : Bool) → b ≡ (n == 0) → not b ≡ true → 0 < n
not_empty n b e h = grind (arith, nat_tests)

pub is_empty : (n : ℕ) (b : Bool) → b ≡ (n == 0) → not b ≡ false → n ≡ 0
is_empty n b e h = grind (arith, nat_tests)
