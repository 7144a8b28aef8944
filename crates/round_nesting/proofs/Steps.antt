-- The graph is drawn spot by spot and entrance by entrance.
use Rattle.std.proofs.Common.{◌≡◌, refl, sym, ap, ◌∙◌, subst, ⊎_elim, List, [], ◌∷◌, ◌++◌, map, take, drop, get_or, Some, slice_get, ℕ, zero, suc, ◌+◌, ◌<◌, ◌≤◌, length, Contains, arith, inl, inr, Result, Ok, Err, OnOk, IfOk}
use Rattle.std.proofs.lemmas.List.{take_more, take_all, take-append-le}
use Rattle.std.proofs.lemmas.List.Elements.{Contains-push_cases, Contains-push, Contains-append_left}
use Rattle.std.proofs.lemmas.Option.{none-some, same_Some}
use Rattle.basics.specs.Items.{none_in}
use Rattle.avr_model.specs.State.{SIZE}
use Rattle.node_keys.specs.declared.keys.InstKey.{InstKey}
use Rattle.instance_graph.specs.declared.graph.Entered.{Entered}
use Rattle.instance_graph.specs.declared.graph.GraphInst.{GraphInst}
use Rattle.instance_graph.specs.declared.graph.ClosedNode.{ClosedNode}
use Rattle.instance_graph.specs.Graph.{EntersAlong, HasClosedNode}
use Rattle.round_nesting.specs.Nestings.{Spot, Entrance}
use Rattle.round_nesting.specs.Drawn.{number_of, IsNodeDrawn, IsEntranceDrawn, IsClosedNodeOf, IsEdgeOf, HasSpot, HasEntranceEdge, IsDrawn}
use Rattle.round_nesting.proofs.Numbers.{number_within}

-- a consequence of success
pub on_ok : {V E : Type 0} (P Q : Type 0) (r : Result V E) → OnOk r P → (P → Q) → OnOk r Q
on_ok P Q (Ok v) h f = f h
on_ok P Q (Err e) h f = h

pub if_ok : {V E : Type 0} (P Q : V → Type 0) (r : Result V E) → IfOk r P → ((v : V) → P v → Q v) → IfOk r Q
if_ok P Q (Ok v) h f = f v h
if_ok P Q (Err e) h f = h

module _ (keys : List InstKey) (spots : List Spot) (entrances : List Entrance) (old new : List GraphInst) (drawn : IsDrawn keys spots entrances old) where
  pub spot_more : (s : Spot) (at : ℕ) (p : ClosedNode) → number_of keys s.inst ≡ at → s.offset ≡ p.offset → p.offset ≤ SIZE → IsNodeDrawn old at p new
      → IsDrawn keys (spots ++ s ∷ []) entrances new
  spot_more s at p number offset low added = record {
    is_graph = record {
      some = omega (arith, drawn.is_graph.some, added.same.count);
      few = omega (arith, drawn.is_graph.few, added.same.count);
      offsets = λ i q h. ⊎_elim (λ before. drawn.is_graph.offsets i q before) (λ it. subst (λ (x : ClosedNode). x.offset ≤ SIZE) (sym it.1) low) ((added.closed i q).0 h);
      edges = λ i e h. drawn.is_graph.edges i e ((added.entered i e).0 h);
      within = λ i e h. let lt = drawn.is_graph.within i e ((added.entered i e).0 h) in omega (arith, lt, added.same.count);
    };
    count = added.same.count ∙ drawn.count;
    keyed = λ i g inst e k. let before = added.same.keys i g e in before.2 ∙ drawn.keyed i before.0 inst before.1 k;
    closed = λ i q h. ⊎_elim (λ before. earlier i q (drawn.closed i q before)) (λ it. this i q it.0 it.1) ((added.closed i q).0 h);
    all_closed = λ x h. ⊎_elim (λ before. still x (drawn.all_closed x before)) (λ same. subst (HasSpot keys new) same there) (Contains-push_cases spots s x h);
    edges = λ i e h. drawn.edges i e ((added.entered i e).0 h);
    all_edges = λ x h. let e = drawn.all_edges x h in record { edge = e.edge; enters = (added.entered (number_of keys x.from) e.edge).1 e.enters; into = e.into; at = e.at };
  }
    where
      earlier : (i : ℕ) (q : ClosedNode) → IsClosedNodeOf keys spots i q → IsClosedNodeOf keys (spots ++ s ∷ []) i q
      earlier i q x = record { spot = x.spot; has = Contains-append_left spots (s ∷ []) x.spot x.has; of = x.of; at = x.at }

      this : (i : ℕ) (q : ClosedNode) → i ≡ at → q ≡ p → IsClosedNodeOf keys (spots ++ s ∷ []) i q
      this i q same is = record { spot = s; has = Contains-push spots s; of = number ∙ sym same; at = offset ∙ ap (λ (x : ClosedNode). x.offset) (sym is) }

      still : (x : Spot) → HasSpot keys old x → HasSpot keys new x
      still x h = record { closed = h.closed; has = (added.closed (number_of keys x.inst) h.closed).1 (inl h.has); at = h.at }

      there : HasSpot keys new s
      there = record { closed = p; has = (added.closed (number_of keys s.inst) p).1 (inr (number, refl)); at = offset }

  pub entrance_more : (x : Entrance) (at : ℕ) (e : Entered) → number_of keys x.from ≡ at → number_of keys x.into ≡ e.into → x.offset ≡ e.offset → e.offset ≤ SIZE
      → IsEntranceDrawn old at e new → IsDrawn keys spots (entrances ++ x ∷ []) new
  entrance_more x at e number into offset low entered = record {
    is_graph = record {
      some = omega (arith, drawn.is_graph.some, entered.same.count);
      few = omega (arith, drawn.is_graph.few, entered.same.count);
      offsets = λ i p h. drawn.is_graph.offsets i p ((entered.closed i p).0 h);
      edges = λ i q h. ⊎_elim (λ before. drawn.is_graph.edges i q before) (λ it. subst (λ (y : Entered). y.offset ≤ SIZE) (sym it.1) low) ((entered.entered i q).0 h);
      within = λ i q h. ⊎_elim (λ before. let lt = drawn.is_graph.within i q before in omega (arith, lt, entered.same.count))
          (λ it. subst (λ (y : Entered). y.into < length new) (sym it.1) inside) ((entered.entered i q).0 h);
    };
    count = entered.same.count ∙ drawn.count;
    keyed = λ i g inst is k. let before = entered.same.keys i g is in before.2 ∙ drawn.keyed i before.0 inst before.1 k;
    closed = λ i p h. drawn.closed i p ((entered.closed i p).0 h);
    all_closed = λ s h. let p = drawn.all_closed s h in record { closed = p.closed; has = (entered.closed (number_of keys s.inst) p.closed).1 p.has; at = p.at };
    edges = λ i q h. ⊎_elim (λ before. earlier i q (drawn.edges i q before)) (λ it. this i q it.0 it.1) ((entered.entered i q).0 h);
    all_edges = λ y h. ⊎_elim (λ before. still y (drawn.all_edges y before)) (λ same. subst (HasEntranceEdge keys new) same there) (Contains-push_cases entrances x y h);
  }
    where
      inside : e.into < length new
      inside = omega (arith, into, number_within x.into keys, entered.same.count, drawn.count)

      earlier : (i : ℕ) (q : Entered) → IsEdgeOf keys entrances i q → IsEdgeOf keys (entrances ++ x ∷ []) i q
      earlier i q y = record { entrance = y.entrance; has = Contains-append_left entrances (x ∷ []) y.entrance y.has; from = y.from; into = y.into; at = y.at }

      this : (i : ℕ) (q : Entered) → i ≡ at → q ≡ e → IsEdgeOf keys (entrances ++ x ∷ []) i q
      this i q same is = record {
        entrance = x;
        has = Contains-push entrances x;
        from = number ∙ sym same;
        into = into ∙ ap (λ (y : Entered). y.into) (sym is);
        at = offset ∙ ap (λ (y : Entered). y.offset) (sym is);
      }

      still : (y : Entrance) → HasEntranceEdge keys old y → HasEntranceEdge keys new y
      still y h = record { edge = h.edge; enters = (entered.entered (number_of keys y.from) h.edge).1 (inl h.enters); into = h.into; at = h.at }

      there : HasEntranceEdge keys new x
      there = record { edge = e; enters = (entered.entered (number_of keys x.from) e).1 (inr (number, refl)); into = into; at = offset }

-- ---- with nothing noted

abbrev pub bare : InstKey → GraphInst
bare key = record { key = key; offsets = []; entered = [] }

abbrev pub bares : List InstKey → List GraphInst
bares keys = map bare keys

is_bare : (keys : List InstKey) (last : InstKey) (i : ℕ) (g : GraphInst) → slice_get (bares keys ++ bare last ∷ []) i ≡ Some g → (g.offsets ≡ []) × (g.entered ≡ [])
is_bare [] last zero g e = let same = same_Some (bare last) g e in (ap (λ (x : GraphInst). x.offsets) (sym same), ap (λ (x : GraphInst). x.entered) (sym same))
is_bare [] last (suc i) g e = absurd (none-some g e)
is_bare (k ∷ ks) last zero g e = let same = same_Some (bare k) g e in (ap (λ (x : GraphInst). x.offsets) (sym same), ap (λ (x : GraphInst). x.entered) (sym same))
is_bare (k ∷ ks) last (suc i) g e = is_bare ks last i g e

bare_key : (keys : List InstKey) (last : InstKey) (i : ℕ) (g : GraphInst) (inst : InstKey) → slice_get (bares keys ++ bare last ∷ []) i ≡ Some g
    → slice_get keys i ≡ Some inst → g.key ≡ inst
bare_key [] last i g inst e k = absurd (none-some inst k)
bare_key (k ∷ ks) last zero g inst e is = ap (λ (x : GraphInst). x.key) (sym (same_Some (bare k) g e)) ∙ same_Some k inst is
bare_key (k ∷ ks) last (suc i) g inst e is = bare_key ks last i g inst e is

bare_count : (keys : List InstKey) (last : InstKey) → length (bares keys ++ bare last ∷ []) ≡ length keys + 1
bare_count [] last = refl
bare_count (k ∷ ks) last = omega (arith, bare_count ks last)

pub nothing_drawn : (keys : List InstKey) (last : InstKey) (gs : List GraphInst) → gs ≡ bares keys ++ bare last ∷ [] → length keys ≤ 65536 → IsDrawn keys [] [] gs
nothing_drawn keys last gs is few = subst (IsDrawn keys [] []) (sym is) (record {
  is_graph = record {
    some = omega (arith, bare_count keys last);
    few = omega (arith, bare_count keys last, few);
    offsets = λ i p h. absurd (no_node i p h);
    edges = λ i e h. absurd (no_edge i e h);
    within = λ i e h. absurd (no_edge i e h);
  };
  count = bare_count keys last;
  keyed = bare_key keys last;
  closed = λ i p h. absurd (no_node i p h);
  all_closed = λ s h. absurd (none_in s h);
  edges = λ i e h. absurd (no_edge i e h);
  all_edges = λ x h. absurd (none_in x h);
})
  where
    no_node : (i : ℕ) (p : ClosedNode) → HasClosedNode (bares keys ++ bare last ∷ []) i p → ⊥
    no_node i p h = none_in p (subst (λ l. Contains l p) (is_bare keys last i h.inst h.is).0 h.has)

    no_edge : (i : ℕ) (e : Entered) → EntersAlong (bares keys ++ bare last ∷ []) i e → ⊥
    no_edge i e h = none_in e (subst (λ l. Contains l e) (is_bare keys last i h.inst h.is).1 h.has)

-- ---- up to an index of the lists

pub spots_take : (keys : List InstKey) (spots : List Spot) (i : ℕ) (s : Spot) (gs : List GraphInst) → i < length spots → s ≡ get_or spots i s
    → IsDrawn keys (take i spots ++ s ∷ []) [] gs → IsDrawn keys (take (i + 1) spots) [] gs
spots_take keys spots i s gs lt is drawn =
    subst (λ l. IsDrawn keys l [] gs) (ap (λ (x : Spot). take i spots ++ x ∷ []) is ∙ sym (take_more spots i s lt)) drawn

pub entrances_take : (keys : List InstKey) (spots : List Spot) (es : List Entrance) (i : ℕ) (x : Entrance) (gs : List GraphInst) → i < length es → x ≡ get_or es i x
    → IsDrawn keys spots (take i es ++ x ∷ []) gs → IsDrawn keys spots (take (i + 1) es) gs
entrances_take keys spots es i x gs lt is drawn =
    subst (λ l. IsDrawn keys spots l gs) (ap (λ (y : Entrance). take i es ++ y ∷ []) is ∙ sym (take_more es i x lt)) drawn

pub entrances_all : (keys : List InstKey) (spots : List Spot) (es : List Entrance) (i : ℕ) (gs : List GraphInst) → length es ≤ i
    → IsDrawn keys spots (take i es) gs → IsDrawn keys spots es gs
entrances_all keys spots es i gs le drawn = subst (λ l. IsDrawn keys spots l gs) (take_all i es le) drawn

-- writing back a slice of a whole vector gives the vector
pub written_back : {X : Type 0} (xs ys : List X) (n : ℕ) → length xs ≡ n → take n (xs ++ drop (length xs) ys) ≡ xs
written_back xs ys n e =
    let le : n ≤ length xs = omega (arith, e) in
    take-append-le n xs (drop (length xs) ys) le ∙ take_all n xs (omega (arith, e))
