-- A node has one expansion, which is a node of the analysis.
use Rattle.std.proofs.Common.{◌≡◌, sym, ap, ◌∙◌, subst, ℕ, ◌≤◌, Bool, List, [], ◌∷◌, length, Option, Some, None, Ok, arith}
use Rattle.std.specs.List.{slice_get}
use Rattle.std.proofs.lemmas.Option.{same_Some}
use Rattle.avr_model.specs.Devices.{device_of}
use Rattle.abs_state.specs.declared.state.AbsState.{AbsState}
use Rattle.node_keys.specs.declared.keys.NodeKey.{NodeKey}
use Rattle.local_rules.specs.declared.local.Local.{Local}
use Rattle.local_rules.specs.Cover.{IsNodeIn}
use Rattle.local_rules.specs.Local.{local}
use Rattle.edge_rules.specs.declared.seeded.NodeForm.{NodeForm}
use Rattle.edge_rules.specs.declared.seeded.NodeForm.TheVariants.{State, From}
use Rattle.edge_rules.specs.Expansion.{Seeds, IsExpansion, own, along, AreSeeds, states_at}
use Rattle.edge_laws.specs.Carrying.{first_at}
use Rattle.edge_laws.specs.Expansions.{ExpansionsAreOne, ExpansionsAreNodes, SuccessorsAreOne}
use Rattle.edge_laws.proofs.Lists.{as_list}
use Rattle.edge_laws.proofs.Successors.{only_first, successor_node}
use Rattle.local_rules.specs.Site.{Task}

-- two seeds of one number are equal
pub same_seed : (o : Option (NodeKey × NodeForm)) (k j : NodeKey) (f g : NodeForm) → o ≡ Some (k, f) → o ≡ Some (j, g) → (k ≡ j) × (f ≡ g)
same_seed o k j f g a b =
    let p : (k, f) ≡ (j, g) = same_Some (k, f) (j, g) (sym a ∙ b) in
    (ap (λ (x : NodeKey × NodeForm). x.0) p, ap (λ (x : NodeKey × NodeForm). x.1) p)

module _ (task : Task) (nodes : Seeds) where
  one_own : (at : ℕ) (k : NodeKey) (s t : AbsState) → slice_get nodes at ≡ Some (k, State s) → IsExpansion task nodes at t → s ≡ t
  one_own _ k s _ e (own at j t f) = let p : State s ≡ State t = (same_seed (slice_get nodes at) k j (State s) (State t) e f).1 in cc
  one_own _ k s _ e (along at m j i form r t l f lt g d is only) =
      let p : State s ≡ From m = (same_seed (slice_get nodes at) k j (State s) (From m) e f).1 in cc

  one_along : (at m : ℕ) (k j : NodeKey) (form : NodeForm) (s u t : AbsState) (l : Local) → slice_get nodes at ≡ Some (k, From m)
      → slice_get nodes m ≡ Some (j, form) → local task j s ≡ Ok l → states_at k l.same ≡ u ∷ []
      → ((r : AbsState) → IsExpansion task nodes m r → s ≡ r) → IsExpansion task nodes at t → u ≡ t
  one_along _ m k j form s u _ l e f is only same (own at i t g) =
      let p : From m ≡ State t = (same_seed (slice_get nodes at) k i (From m) (State t) e g).1 in cc
  one_along _ m k j form s u _ l e f is only same (along at n i h form2 r t l2 g lt f2 d is2 only2) =
      let both = same_seed (slice_get nodes at) k i (From m) (From n) e g in
      let p : From m ≡ From n = both.1 in
      let q : m ≡ n = cc in
      let jh : j ≡ h = (same_seed (slice_get nodes m) j h form form2 f (ap (slice_get nodes) q ∙ f2)).0 in
      let sr : s ≡ r = same r (subst (λ x. IsExpansion task nodes x r) (sym q) d) in
      let oks : Ok l ≡ Ok l2 = sym is ∙ ((λ x. local task (jh x) (sr x)) ∙ is2) in
      let ls : l ≡ l2 = cc in
      let lists : u ∷ [] ≡ t ∷ [] = sym only ∙ ((λ x. states_at (both.0 x) (ls x).same) ∙ only2) in
      cc

  pub one : (at : ℕ) (s t : AbsState) → IsExpansion task nodes at s → IsExpansion task nodes at t → s ≡ t
  one _ _ t (own at k s e) x = one_own at k s t e x
  one _ _ t (along at m k j form s u l e lt f d is only) x = one_along at m k j form s u t l e f is only (λ r y. one m s r d y) x

  pub expansion_node : {followed : Bool} (seeds : AreSeeds (device_of task.flash) followed nodes) (at : ℕ) (k : NodeKey) (form : NodeForm) (s : AbsState) → slice_get nodes at ≡ Some (k, form)
      → IsExpansion task nodes at s → IsNodeIn (device_of task.flash) followed k s
  expansion_node {followed = followed} seeds _ k form _ e (own at j s f) =
      subst (λ x. IsNodeIn (device_of task.flash) followed x s) (sym (same_seed (slice_get nodes at) k j form (State s) e f).0) (seeds.own at j s f)
  expansion_node {followed = followed} seeds _ k form _ e (along at m j i form2 s t l f lt g d is only) =
      subst (λ x. IsNodeIn (device_of task.flash) followed x t) (sym (same_seed (slice_get nodes at) k j form (From m) e f).0)
      (successor_node task i s l is j t (expansion_node seeds m i form2 s g d) only)

short : (o : Option AbsState) → length (as_list o) ≤ 1
short None = omega arith
short (Some x) = omega arith

pub expansions_are_one : ExpansionsAreOne
expansions_are_one = record { one = one }

pub expansions_are_nodes : ExpansionsAreNodes
expansions_are_nodes = record { node = λ task nodes at k form s seeds e x. expansion_node task nodes seeds at k form s e x }

pub successors_are_one : SuccessorsAreOne
successors_are_one = record {
  few = λ task j k s l is. subst (λ (x : List AbsState). length x ≤ 1) (sym (only_first task j s l is k)) (short (first_at k l.same));
}
