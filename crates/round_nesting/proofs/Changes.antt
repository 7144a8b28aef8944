-- One more closed node or edge of an instance in a graph.
use Rattle.std.proofs.Common.{◌≡◌, ◌↔◌, refl, sym, ap, ◌∙◌, subst, ◌⊎◌, inl, inr, ⊎_elim, List, [], ◌∷◌, ◌++◌, Some, slice_get, set, ℕ, zero, suc, ◌<◌, length, arith}
use Rattle.std.specs.List.{Contains}
use Rattle.std.proofs.lemmas.Bool.{cases_eq}
use Rattle.std.proofs.lemmas.List.{length-set}
use Rattle.std.proofs.lemmas.List.Elements.{Contains-push_cases, Contains-push, Contains-append_left}
use Rattle.std.proofs.lemmas.Option.{same_Some, slice_get_within}
use Rattle.instance_graph.specs.declared.graph.Entered.{Entered}
use Rattle.instance_graph.specs.declared.graph.GraphInst.{GraphInst}
use Rattle.instance_graph.specs.declared.graph.ClosedNode.{ClosedNode}
use Rattle.instance_graph.specs.Graph.{EntersAlong, HasClosedNode}
use Rattle.round_nesting.specs.Drawn.{IsSame, IsNodeDrawn, IsEntranceDrawn}

set_here : {X : Type 0} (xs : List X) (i : ℕ) (y : X) → i < length xs → slice_get (set xs i y) i ≡ Some y
set_here [] i y lt = absurd (omega (arith, lt))
set_here (x ∷ xs) zero y lt = refl
set_here (x ∷ xs) (suc i) y lt = set_here xs i y (omega (arith, lt))

set_there : {X : Type 0} (xs : List X) (i j : ℕ) (y : X) → (j ≡ i → ⊥) → slice_get (set xs i y) j ≡ slice_get xs j
set_there [] i j y ne = refl
set_there (x ∷ xs) zero zero y ne = absurd (ne refl)
set_there (x ∷ xs) zero (suc j) y ne = refl
set_there (x ∷ xs) (suc i) zero y ne = refl
set_there (x ∷ xs) (suc i) (suc j) y ne = set_there xs i j y (λ e. ne (ap suc e))

module _ (gs : List GraphInst) (at : ℕ) (g h : GraphInst) (is : slice_get gs at ≡ Some g) where
  abbrev new : List GraphInst
  new = set gs at h

  here : slice_get new at ≡ Some h
  here = set_here gs at h (slice_get_within gs at g is)

  at_here : (x : GraphInst) → slice_get new at ≡ Some x → h ≡ x
  at_here x e = same_Some h x (sym here ∙ e)

  same : h.key ≡ g.key → IsSame gs new
  same key = record { count = length-set gs at h; keys = λ i x e. by i x e (cases_eq i at) }
    where
      by : (i : ℕ) (x : GraphInst) → slice_get new i ≡ Some x → (i ≡ at) ⊎ (i ≡ at → ⊥) → (y : GraphInst) × (slice_get gs i ≡ Some y) × (x.key ≡ y.key)
      by i x e (inl eq) =
          (g, subst (λ j. slice_get gs j ≡ Some g) (sym eq) is, ap (λ (z : GraphInst). z.key) (sym (at_here x (subst (λ j. slice_get new j ≡ Some x) eq e))) ∙ key)
      by i x e (inr ne) = (x, sym (set_there gs at i h ne) ∙ e, refl)

  -- the new list of instance i, in which some items of the old one are kept
  module _ {X : Type 0} (list : GraphInst → List X) where
    abbrev In : List GraphInst → ℕ → X → Type 0
    In fs i x = (inst : GraphInst) × (slice_get fs i ≡ Some inst) × Contains (list inst) x

    kept : list h ≡ list g → (i : ℕ) (x : X) → In new i x ↔ In gs i x
    kept e i x = by (cases_eq i at)
      where
        by : (i ≡ at) ⊎ (i ≡ at → ⊥) → In new i x ↔ In gs i x
        by (inl eq) = subst (λ j. In new j x ↔ In gs j x) (sym eq) (
          (λ m. (g, is, subst (λ l. Contains l x) (ap list (sym (at_here m.0 m.1)) ∙ e) m.2)),
          (λ m. (h, here, subst (λ l. Contains l x) (ap list (sym (same_Some g m.0 (sym is ∙ m.1))) ∙ sym e) m.2)),
        )
        by (inr ne) = ((λ m. (m.0, sym (set_there gs at i h ne) ∙ m.1, m.2)), (λ m. (m.0, set_there gs at i h ne ∙ m.1, m.2)))

    grown : (y : X) → list h ≡ list g ++ y ∷ [] → (i : ℕ) (x : X) → In new i x ↔ (In gs i x ⊎ ((i ≡ at) × (x ≡ y)))
    grown y e i x = by (cases_eq i at)
      where
        by : (i ≡ at) ⊎ (i ≡ at → ⊥) → In new i x ↔ (In gs i x ⊎ ((i ≡ at) × (x ≡ y)))
        by (inl eq) = (
          λ m. ⊎_elim (λ old. inl (g, subst (λ j. slice_get gs j ≡ Some g) (sym eq) is, old)) (λ same. inr (eq, sym same))
              (Contains-push_cases (list g) y x
              (subst (λ l. Contains l x) (ap list (sym (at_here m.0 (subst (λ j. slice_get new j ≡ Some m.0) eq m.1))) ∙ e) m.2)),
          ⊎_elim
              (λ m. (
                h,
                subst (λ j. slice_get new j ≡ Some h) (sym eq) here,
                subst (λ l. Contains l x) (sym e)
                    (Contains-append_left (list g) (y ∷ []) x
                    (subst (λ l. Contains l x) (ap list (sym (same_Some g m.0 (sym is ∙ subst (λ j. slice_get gs j ≡ Some m.0) eq m.1)))) m.2)),
              ))
              (λ m. (
                h,
                subst (λ j. slice_get new j ≡ Some h) (sym eq) here,
                subst (λ l. Contains l x) (sym e) (subst (Contains (list g ++ y ∷ [])) (sym m.1) (Contains-push (list g) y)),
              )),
        )
        by (inr ne) = (
          λ m. inl (m.0, sym (set_there gs at i h ne) ∙ m.1, m.2),
          ⊎_elim (λ m. (m.0, set_there gs at i h ne ∙ m.1, m.2)) (λ m. absurd (ne m.0)),
        )

  abbrev offsets_of : GraphInst → List ClosedNode
  offsets_of x = x.offsets

  abbrev entered_of : GraphInst → List Entered
  entered_of x = x.entered

  node_in : (fs : List GraphInst) (i : ℕ) (p : ClosedNode) → HasClosedNode fs i p ↔ In offsets_of fs i p
  node_in fs i p = ((λ m. (m.inst, m.is, m.has)), (λ m. record { inst = m.0; is = m.1; has = m.2 }))

  edge_in : (fs : List GraphInst) (i : ℕ) (e : Entered) → EntersAlong fs i e ↔ In entered_of fs i e
  edge_in fs i e = ((λ m. (m.inst, m.is, m.has)), (λ m. record { inst = m.0; is = m.1; has = m.2 }))

  pub node_added : (node : ClosedNode) → h.key ≡ g.key → h.offsets ≡ g.offsets ++ node ∷ [] → h.entered ≡ g.entered → IsNodeDrawn gs at node new
  node_added node key more rest = record {
    same = same key;
    closed = λ i p. (
      λ m. ⊎_elim (λ old. inl ((node_in gs i p).1 old)) (λ it. inr it) ((grown offsets_of node more i p).0 ((node_in new i p).0 m)),
      λ m. (node_in new i p).1 ((grown offsets_of node more i p).1 (⊎_elim (λ old. inl ((node_in gs i p).0 old)) (λ it. inr it) m)),
    );
    entered = λ i e. (
      λ m. (edge_in gs i e).1 ((kept entered_of rest i e).0 ((edge_in new i e).0 m)),
      λ m. (edge_in new i e).1 ((kept entered_of rest i e).1 ((edge_in gs i e).0 m)),
    );
  }

  pub edged : (edge : Entered) → h.key ≡ g.key → h.offsets ≡ g.offsets → h.entered ≡ g.entered ++ edge ∷ [] → IsEntranceDrawn gs at edge new
  edged edge key rest more = record {
    same = same key;
    closed = λ i p. (
      λ m. (node_in gs i p).1 ((kept offsets_of rest i p).0 ((node_in new i p).0 m)),
      λ m. (node_in new i p).1 ((kept offsets_of rest i p).1 ((node_in gs i p).0 m)),
    );
    entered = λ i e. (
      λ m. ⊎_elim (λ old. inl ((edge_in gs i e).1 old)) (λ it. inr it) ((grown entered_of edge more i e).0 ((edge_in new i e).0 m)),
      λ m. (edge_in new i e).1 ((grown entered_of edge more i e).1 (⊎_elim (λ old. inl ((edge_in gs i e).0 old)) (λ it. inr it) m)),
    );
  }
