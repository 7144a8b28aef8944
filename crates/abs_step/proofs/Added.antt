-- Nodes that are added to a list.
use Rattle.std.proofs.Common.{◌≡◌, refl, sym, ap, ◌∙◌, ℕ, zero, suc, ◌+◌, ◌<◌, List, [], ◌∷◌, ◌++◌, length, map, flat_map, take, slice_index_or, Option, Some, None, Result, Ok, Err, arith}
use Rattle.std.proofs.lemmas.List.{append-nil, append_assoc}
use Rattle.abs_state.specs.declared.state.AbsState.{AbsState}
use Rattle.avr_model.specs.Marks.{marks}
use Rattle.node_keys.specs.declared.keys.NodeKey.{NodeKey}
use Rattle.pair_rules.specs.Refined.{refined}
use Rattle.local_rules.specs.declared.local.Node.{Node}
use Rattle.local_rules.specs.declared.local.NodeFault.{NodeFault}
use Rattle.local_rules.specs.Raw.{one, moves_to}
use Rattle.local_rules.specs.HighBytes.{SpView}
use Rattle.local_rules.specs.Settling.{settled_state, node_where}
use Rattle.local_rules.specs.Local.{placed, joined_onto}
use Rattle.abs_step.specs.Adding.{Teller, Moving, moving, plain, settled_by, refined_by, left_by, settled_through, refined_through, through, with_nodes, AreNodesAdded, Adds}

-- ---- what is left of nodes

pub through_none : (view : Option SpView) (by : Option Teller) → through view by [] ≡ []
through_none None None = refl
through_none None (Some w) = refl
through_none (Some v) None = refl
through_none (Some v) (Some w) = refl

settled_one : (view : Option SpView) (k : NodeKey) (s : AbsState) → settled_through view (record { key = k; state = s } ∷ []) ≡ node_where k (settled_by view s)
settled_one None k s = refl
settled_one (Some v) k s = append-nil (node_where k (settled_state v s))

refined_one : (by : Option Teller) (k : NodeKey) (o : Option AbsState) → refined_through by (node_where k o) ≡ node_where k (refined_by by o)
refined_one None k None = refl
refined_one None k (Some t) = refl
refined_one (Some w) k None = refl
refined_one (Some w) k (Some t) = append-nil (node_where k (refined (marks w.image) w.image w.instr w.state t))

pub through_one : (view : Option SpView) (by : Option Teller) (k : NodeKey) (s : AbsState)
    → through view by (record { key = k; state = s } ∷ []) ≡ node_where k (left_by view by s)
through_one view by k s = ap (refined_through by) (settled_one view k s) ∙ refined_one by k (settled_by view s)

each_all : (f : Node → List Node) (ns ms : List Node) → flat_map f (ns ++ ms) ≡ flat_map f ns ++ flat_map f ms
each_all f [] ms = refl
each_all f (n ∷ ns) ms = ap (λ (rest : List Node). f n ++ rest) (each_all f ns ms) ∙ sym (append_assoc (f n) (flat_map f ns) (flat_map f ms))

settled_all : (view : Option SpView) (ns ms : List Node) → settled_through view (ns ++ ms) ≡ settled_through view ns ++ settled_through view ms
settled_all None ns ms = refl
settled_all (Some v) ns ms = each_all (λ (n : Node). node_where n.key (settled_state v n.state)) ns ms

refined_all : (by : Option Teller) (ns ms : List Node) → refined_through by (ns ++ ms) ≡ refined_through by ns ++ refined_through by ms
refined_all None ns ms = refl
refined_all (Some w) ns ms = each_all (λ (n : Node). node_where n.key (refined (marks w.image) w.image w.instr w.state n.state)) ns ms

through_all : (view : Option SpView) (by : Option Teller) (ns ms : List Node) → through view by (ns ++ ms) ≡ through view by ns ++ through view by ms
through_all view by ns ms = ap (refined_through by) (settled_all view ns ms) ∙ refined_all by (settled_through view ns) (settled_through view ms)

pub joined_all : (old ns ms : List Node) → joined_onto old (ns ++ ms) ≡ joined_onto (joined_onto old ns) ms
unfolding joined_onto
joined_all old [] ms = refl
joined_all old (n ∷ ns) ms = joined_all (placed n old) ns ms

-- ---- the list with some, and then with others

pub with_all : (m : Moving) (ns ms : List Node) → with_nodes m (ns ++ ms) ≡ with_nodes (with_nodes m ns) ms
with_all m ns ms =
    ap (λ (xs : List Node). record m { nodes = xs })
    (ap (joined_onto m.nodes) (through_all m.view m.by ns ms) ∙ joined_all m.nodes (through m.view m.by ns) (through m.view m.by ms))

pub with_none : (m : Moving) → m ≡ with_nodes m []
unfolding joined_onto
with_none m = sym (ap (λ (xs : List Node). record m { nodes = joined_onto m.nodes xs }) (through_none m.view m.by))

pub none_added : (old : Moving) → AreNodesAdded old old (moves_to [])
none_added old = record { moves = refl; nodes = with_none old }

pub put_added : (old new : List Node) (k : NodeKey) (s : AbsState) → new ≡ placed (record { key = k; state = s }) old
    → AreNodesAdded (plain old) (plain new) (moves_to (node_where k (Some s)))
unfolding joined_onto
put_added old new k s e = record { moves = refl; nodes = ap plain e }

-- the settled and refined node was inserted
pub one_added : (view : Option SpView) (by : Option Teller) (old new : List Node) (k : NodeKey) (s : AbsState)
    → AreNodesAdded (plain old) (plain new) (moves_to (node_where k (left_by view by s))) → AreNodesAdded (moving view by old) (moving view by new) (one k s)
one_added view by old new k s h = record {
  moves = refl;
  nodes = ap (moving view by) (ap (λ (m : Moving). m.nodes) h.nodes ∙ ap (joined_onto old) (sym (through_one view by k s)));
}

pub two_added : (old mid new : Moving) (j k : NodeKey) (s t : AbsState) → AreNodesAdded old mid (one j s) → AreNodesAdded mid new (one k t)
    → AreNodesAdded old new (moves_to (record { key = j; state = s } ∷ record { key = k; state = t } ∷ []))
two_added old mid new j k s t p q = record {
  moves = refl;
  nodes = q.nodes ∙ ap (λ (m : Moving). with_nodes m (record { key = k; state = t } ∷ [])) p.nodes
      ∙ sym (with_all old (record { key = j; state = s } ∷ []) (record { key = k; state = t } ∷ []));
}

-- the second insertion may fail
pub two_add : {U : Type 0} (result : Result U NodeFault) (old mid new : Moving) (j k : NodeKey) (s t : AbsState) → AreNodesAdded old mid (one j s)
    → Adds mid new result (one k t) → Adds old new result (moves_to (record { key = j; state = s } ∷ record { key = k; state = t } ∷ []))
two_add (Ok u) old mid new j k s t p q = two_added old mid new j k s t p q
two_add (Err f) old mid new j k s t p q = q

-- ---- one for each of a list

pub map_more : {B : Type 0} (f : ℕ → B) (xs : List ℕ) (at next d : ℕ) → at < length xs → next ≡ at + 1
    → map f (take next xs) ≡ map f (take at xs) ++ f (slice_index_or xs at d) ∷ []
map_more f [] at next d lt e = absurd (omega (arith, lt))
map_more f (x ∷ xs) zero zero d lt e = absurd (omega (arith, e))
map_more f (x ∷ xs) zero (suc zero) d lt e = refl
map_more f (x ∷ xs) zero (suc (suc next)) d lt e = absurd (omega (arith, e))
map_more f (x ∷ xs) (suc at) zero d lt e = absurd (omega (arith, e))
map_more f (x ∷ xs) (suc at) (suc next) d lt e = ap (λ ns. f x ∷ ns) (map_more f xs at next d (omega (arith, lt)) (omega (arith, e)))

pub more_added : (f : ℕ → Node) (xs : List ℕ) (at d : ℕ) (old mid new : Moving) (k : NodeKey) (s : AbsState) → at < length xs
    → record { key = k; state = s } ≡ f (slice_index_or xs at d) → AreNodesAdded old mid (moves_to (map f (take at xs))) → AreNodesAdded mid new (one k s)
    → AreNodesAdded old new (moves_to (map f (take (at + 1) xs)))
more_added f xs at d old mid new k s lt e p q =
    record {
      moves = refl;
      nodes = q.nodes ∙ (λ i. with_nodes (p.nodes i) (e i ∷ [])) ∙ sym (with_all old (map f (take at xs)) (f (slice_index_or xs at d) ∷ []))
          ∙ ap (with_nodes old) (sym (map_more f xs at (at + 1) d lt refl));
    }

pub ruleset adding = (put_added, two_added, none_added)
