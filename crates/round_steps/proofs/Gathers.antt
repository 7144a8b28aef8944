-- Gathered targets.
use Rattle.std.proofs.Common.{◌≡◌, refl, sym, ap, ◌∙◌, subst, inl, inr, ⊎_elim, List, [], ◌∷◌, ◌++◌, Bool, Some, Result, Ok, Err, IfOk, OnOk}
use Rattle.std.proofs.lemmas.List.{append-nil}
use Rattle.std.proofs.lemmas.List.Elements.{Contains-append_left, Contains-push, Contains-push_cases}
use Rattle.std.proofs.lemmas.Grind.{flat_map-append}
use Rattle.std.specs.FinMap.{get, empty, get-empty}
use Rattle.std.specs.List.{flat_map}
use Rattle.basics.specs.Items.{none_in, first_in}
use Rattle.std.proofs.lemmas.Option.{same_Some}
use Rattle.avr_model.specs.declared.device.Device.{Device}
use Rattle.abs_state.specs.declared.state.AbsState.{AbsState}
use Rattle.abs_state.specs.Order.{IsStateWithin}
use Rattle.abs_state.proofs.AllLaws.{states_are_ordered}
use Rattle.node_keys.specs.declared.keys.NodeKey.{NodeKey}
use Rattle.node_keys.specs.Order.{node_cmp}
use Rattle.local_rules.specs.declared.local.Node.{Node}
use Rattle.local_rules.specs.Cover.{IsNodeIn}
use Rattle.local_laws.specs.Laws.{AreNodesIn}
use Rattle.local_laws.proofs.AllLaws.{each_of}
use Rattle.round_rules.specs.Families.{Family, nodes_of, FamilyHas, Lands, AreFormed}
use Rattle.round_laws.specs.Steps.{joined_with, raised, AreJoined}
use Rattle.round_laws.proofs.AllLaws.{families_are_their_nodes, rounds_are_joins, lands_up, lands_covered, at_keys, get_other}
use Rattle.round_steps.specs.Gathers.{IsOwnState, AreOwn, AreOwnNodes, IsTargetGathered, AreTargetsGathered, AreBeyond}

pub on_ok : {V E P Q : Type 0} (r : Result V E) → OnOk r P → (P → Q) → OnOk r Q
on_ok (Ok v) p f = f p
on_ok (Err e) p f = p

pub if_ok : {V E : Type 0} {P Q : V → Type 0} (r : Result V E) → IfOk r P → ((v : V) → P v → Q v) → IfOk r Q
if_ok (Ok v) p f = f v p
if_ok (Err e) p f = p

-- a node's state determines whether it follows pairs
pub own_node : {device : Device} {followed : Bool} (k : NodeKey) (s : AbsState) → IsNodeIn device followed k s → IsOwnState k s
own_node {device = device} k s node = (device, subst (λ (m : Bool). IsNodeIn device m k s) (sym node.mode) node)

pub formed_own : {device : Device} {followed : Bool} (f : Family) → AreFormed device followed f → AreOwn f
formed_own f formed n has = own_node n.key n.state (formed n has)

pub nodes_own : {device : Device} {followed : Bool} (ns : List Node) → AreNodesIn device followed ns → AreOwnNodes ns
nodes_own ns nodes n i = own_node n.key n.state (nodes n i)

nothing_there : (n : Node) → FamilyHas empty n → ⊥
nothing_there n has = let never = sym (get-empty {X = AbsState} node_cmp n.key) ∙ has in cc

pub none_gathered : (device : Device) (followed : Bool) (f : Family) → AreTargetsGathered device followed f [] empty
none_gathered device followed f = record {
  formed = λ n has. absurd (nothing_there n has);
  each = λ to i. absurd (none_in to i);
  least = λ h lands n has. absurd (nothing_there n has);
  beyond = λ n has lands. nothing_there n has;
}

-- what is below a node that lands, lands
lands_below : (f : Family) (n m : Node) → m.key ≡ n.key → IsStateWithin n.state m.state → Lands f m → Lands f n
lands_below f n m same below l =
    record { at = l.at; is = subst (λ (k : NodeKey). get f k ≡ Some l.at) same l.is; above = states_are_ordered.through n.state m.state l.at below l.above }

module _ (device : Device) (followed : Bool) (f old : Family) (all : List Node) (n : Node) (node : IsNodeIn device followed n.key n.state) (g : AreTargetsGathered device followed f all old) where
  lands_already : Lands f n → AreTargetsGathered device followed f (all ++ n ∷ []) old
  lands_already l = record {
    formed = g.formed;
    each = λ to i. ⊎_elim (g.each to) (λ same. inl (subst (Lands f) same l)) (Contains-push_cases all n to i);
    least = λ h lands. g.least h (λ to i. lands to (Contains-append_left all (n ∷ []) to i));
    beyond = g.beyond;
  }

  joined : AreJoined device followed old (n ∷ []) (raised old n)
  joined = rounds_are_joins.joined old (n ∷ []) g.formed (each_of (λ m. IsNodeIn device followed m.key m.state) n [] node (λ m i. absurd (none_in m i)))

  landed : Lands (raised old n) n
  landed = joined.lands n (first_in n [])

  beyond_still : (Lands f n → ⊥) → (m : Node) → FamilyHas (raised old n) m → Lands f m → ⊥
  beyond_still never m has =
      at_keys (λ q. (s : AbsState) → get (raised old n) q ≡ Some s → Lands f (record { key = q; state = s }) → ⊥) n.key m.key
      (λ s e l.
      never (lands_below f n (record { key = n.key; state = s }) refl (subst (IsStateWithin n.state) (same_Some landed.at s (sym landed.is ∙ e)) landed.above) l))
      (λ ne s e l. g.beyond (record { key = m.key; state = s }) (sym (get_other old n.key (joined_with (get old n.key) n.state) m.key ne) ∙ e) l) m.state has

  joins_in : (Lands f n → ⊥) → AreTargetsGathered device followed f (all ++ n ∷ []) (raised old n)
  joins_in never = record {
    formed = joined.formed;
    each = λ to i. ⊎_elim (λ j. ⊎_elim (λ l. inl l) (λ l. inr (lands_up old (raised old n) to joined.above l)) (g.each to j))
        (λ same. inr (subst (Lands (raised old n)) same landed)) (Contains-push_cases all n to i);
    least = λ h lands. joined.least h (g.least h (λ to i. lands to (Contains-append_left all (n ∷ []) to i)))
        (each_of (Lands h) n [] (lands n (Contains-push all n)) (λ m i. absurd (none_in m i)));
    beyond = beyond_still never;
  }

  pub one_gathered : (new : Family) → IsTargetGathered f old n new → AreTargetsGathered device followed f (all ++ n ∷ []) new
  one_gathered new is =
      ⊎_elim (λ p. subst (AreTargetsGathered device followed f (all ++ n ∷ [])) (sym p.1) (lands_already p.0)) (λ p. subst (AreTargetsGathered device followed f (all ++ n ∷ [])) (sym p.1) (joins_in p.0)) is

-- ---- look by look

pub flat_map_push : {X Y : Type 0} (f : X → List Y) (xs : List X) (x : X) → flat_map f (xs ++ x ∷ []) ≡ flat_map f xs ++ f x
flat_map_push f xs x = flat_map-append f xs (x ∷ []) ∙ ap (λ l. flat_map f xs ++ l) (append-nil (f x))

-- the gathered nodes
pub are_beyond : (device : Device) (followed : Bool) (f : Family) (all : List Node) (g : Family) → AreTargetsGathered device followed f all g → AreBeyond device followed f all (nodes_of g)
are_beyond device followed f all g a = record {
  nodes = λ n i. a.formed n ((families_are_their_nodes.members g n).0 i);
  each = λ to i. ⊎_elim (λ l. inl l) (λ l. inr (lands_covered g to l)) (a.each to i);
  least = λ h lands n i. a.least h lands n ((families_are_their_nodes.members g n).0 i);
  beyond = λ n i. a.beyond n ((families_are_their_nodes.members g n).0 i);
  apart = families_are_their_nodes.apart g;
}
