-- A node from an earlier one has an expansion exactly if that one has, with a successor of its key.
use Rattle.std.proofs.Common.{◌≡◌, sym, ap, ◌∙◌, subst, ℕ, Some}
use Rattle.std.specs.List.{slice_get}
use Rattle.abs_state.specs.declared.state.AbsState.{AbsState}
use Rattle.node_keys.specs.declared.keys.NodeKey.{NodeKey}
use Rattle.local_rules.specs.Local.{local}
use Rattle.edge_rules.specs.declared.seeded.NodeForm.{NodeForm}
use Rattle.edge_rules.specs.declared.seeded.NodeForm.TheVariants.{State, From}
use Rattle.edge_rules.specs.Expansion.{Seeds, IsExpansion, own, along, states_at}
use Rattle.edge_laws.specs.Expansions.{HasSuccessor, ExpansionsFollow}
use Rattle.edge_laws.proofs.One.{same_seed, one}
use Rattle.local_rules.specs.Site.{Task}

abbrev Carried : Task → Seeds → ℕ → NodeKey → NodeKey → AbsState → Type 0
Carried task nodes m j k t = (s : AbsState) × (IsExpansion task nodes m s × HasSuccessor task j s k t)

module _ (task : Task) (nodes : Seeds) where
  carried_back : (at m : ℕ) (k j : NodeKey) (form : NodeForm) (t : AbsState) → slice_get nodes at ≡ Some (k, From m) → slice_get nodes m ≡ Some (j, form)
      → IsExpansion task nodes at t → Carried task nodes m j k t
  carried_back _ m k j form _ e g (own at i t f) = let p : From m ≡ State t = (same_seed (slice_get nodes at) k i (From m) (State t) e f).1 in cc
  carried_back _ m k j form _ e g (along at n i h form2 r t l f lt g2 d is only) =
      let both = same_seed (slice_get nodes at) k i (From m) (From n) e f in
      let p : From m ≡ From n = both.1 in
      let q : m ≡ n = cc in
      let jh : j ≡ h = (same_seed (slice_get nodes m) j h form form2 g (ap (slice_get nodes) q ∙ g2)).0 in (
        r,
        (
          subst (λ x. IsExpansion task nodes x r) (sym q) d,
          (l, ((λ x. local task (jh x) r) ∙ is, ap (λ x. states_at x l.same) both.0 ∙ only)),
        ),
      )

pub expansions_follow : ExpansionsFollow
expansions_follow = record {
  own = λ task nodes at k s t e.
      (λ x. one task nodes at t s x (own at k s e), λ same. subst (IsExpansion task nodes at) (sym same) (own at k s e));
  from = λ task nodes at m k j form t e lt g.
      (carried_back task nodes at m k j form t e g, λ c. along at m k j form c.0 t c.1.1.0 e lt g c.1.0 c.1.1.1.0 c.1.1.1.1);
}
