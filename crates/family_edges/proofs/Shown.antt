-- The nodes of a view, and those that leave an instance.
use Rattle.std.proofs.Common.{◌≡◌, refl, sym, ◌∙◌, ap, subst, ℕ, ◌+◌, ◌<◌, ◌≤◌, Bool, true, false, List, [], ◌++◌, take, Option, Some, None, slice_get, arith}
use Rattle.std.proofs.lemmas.List.{append-nil}
use Rattle.std.specs.Option.{option_map}
use Rattle.basics.specs.Items.{contained_at}
use Rattle.basics.specs.Lists.{get_inside}
use Rattle.std.proofs.lemmas.Option.{same_Some, none-some}
use Rattle.abs_state.specs.declared.state.AbsState.{AbsState}
use Rattle.node_keys.specs.declared.keys.InstKey.{InstKey}
use Rattle.node_keys.specs.declared.keys.NodeKey.{NodeKey}
use Rattle.node_keys.specs.Order.{same_inst}
use Rattle.node_keys.proofs.AllLaws.{keys_are_ordered}
use Rattle.local_rules.specs.declared.local.Node.{Node}
use Rattle.local_rules.specs.Cover.{IsNodeIn}
use Rattle.edge_rules.specs.declared.edge.Edge.{Edge}
use Rattle.family_edges.specs.declared.ways.Way.{Way}
use Rattle.edge_rules.specs.Views.{IsSpan, key_of, state_of}
use Rattle.family_edges.specs.Shown.{AreOfSomeDevice}
use Rattle.family_edges.specs.Next.{return_by, returns_by, leaver_at, leaver_if, leavers_in}
use Rattle.family_edges.proofs.Gathered.{grown, none_before, none_after}
use Rattle.local_rules.specs.Site.{Task}

node_by : (nodes : List Node) (at : ℕ) (k : NodeKey) (s : AbsState) (o : Option Node) (shown : AreOfSomeDevice nodes) → slice_get nodes at ≡ o
    → option_map key_of o ≡ Some k → option_map state_of o ≡ Some s → IsNodeIn shown.0 shown.1.followed k s
node_by nodes at k s None shown e ek es = absurd (none-some k ek)
node_by nodes at k s (Some n) shown e ek es =
    subst (λ l. IsNodeIn shown.0 shown.1.followed l s) (same_Some n.key k ek)
    (subst (λ t. IsNodeIn shown.0 shown.1.followed n.key t) (same_Some n.state s es) (shown.1.all n (contained_at nodes at n e)))

pub node_there : (nodes : List Node) (at : ℕ) (k : NodeKey) (s : AbsState) (shown : AreOfSomeDevice nodes)
    → option_map key_of (slice_get nodes at) ≡ Some k → option_map state_of (slice_get nodes at) ≡ Some s → IsNodeIn shown.0 shown.1.followed k s
node_there nodes at k s shown ek es = node_by nodes at k s (slice_get nodes at) shown refl ek es

state_by : (nodes : List Node) (at : ℕ) (s : AbsState) (o : Option Node) (shown : AreOfSomeDevice nodes) → slice_get nodes at ≡ o → option_map state_of o ≡ Some s
    → (k : NodeKey) × IsNodeIn shown.0 shown.1.followed k s
state_by nodes at s None shown e es = absurd (none-some s es)
state_by nodes at s (Some n) shown e es =
    (n.key, subst (IsNodeIn shown.0 shown.1.followed n.key) (same_Some n.state s es) (shown.1.all n (contained_at nodes at n e)))

pub state_there : (nodes : List Node) (at : ℕ) (s : AbsState) (shown : AreOfSomeDevice nodes) → option_map state_of (slice_get nodes at) ≡ Some s
    → (k : NodeKey) × IsNodeIn shown.0 shown.1.followed k s
state_there nodes at s shown es = state_by nodes at s (slice_get nodes at) shown refl es

-- ---- the nodes that leave an instance

module _ (task : Task) where
  other_by : (inst : InstKey) (n : Node) (b : Bool) → same_inst n.key.inst inst ≡ b → (n.key.inst ≡ inst → ⊥) → leaver_if task inst n ≡ []
  other_by inst n true e other = absurd (other ((keys_are_ordered.same_insts n.key.inst inst).0 e))
  other_by inst n false e other = rw e refl

  other_gives_none : (inst : InstKey) (n : Node) → (n.key.inst ≡ inst → ⊥) → leaver_if task inst n ≡ []
  other_gives_none inst n other = other_by inst n (same_inst n.key.inst inst) refl other

  same_gives : (inst : InstKey) (n : Node) → n.key.inst ≡ inst → leaver_if task inst n ≡ leaver_at task n
  same_gives inst n e = rw ((keys_are_ordered.same_insts n.key.inst inst).1 e) refl

  module _ (nodes : List Node) (inst : InstKey) (low high : ℕ) (span : IsSpan nodes inst low high) where
    leavers_none : leavers_in task (take low nodes) inst ≡ []
    leavers_none =
        none_before (leaver_if task inst) nodes low
        (λ at n e lt. other_gives_none inst n (λ same. let p = ((span.exact at n e).0 same) in absurd (omega (arith, p.0, lt))))

    pub leavers_all : (at : ℕ) → high ≤ at → at ≤ high → leavers_in task (take at nodes) inst ≡ leavers_in task nodes inst
    leavers_all at above below =
        none_after (leaver_if task inst) nodes at
        (λ j n found le. other_gives_none inst n (λ same. let p = ((span.exact j n found).0 same) in absurd (omega (arith, p.1, le, above))))

    module _ (n : Node) (w : Way) where
      pub returned_none : (old : List Edge) → old ≡ old ++ returns_by n w (leavers_in task (take low nodes) inst)
      returned_none old = rw leavers_none (sym (append-nil old))

      pub returned_more : (at : ℕ) (old now new : List Edge) → low ≤ at → at < high → now ≡ old ++ returns_by n w (leavers_in task (take at nodes) inst)
          → ((m : Node) → slice_get nodes at ≡ Some m → new ≡ now ++ returns_by n w (leaver_at task m))
          → new ≡ old ++ returns_by n w (leavers_in task (take (at + 1) nodes) inst)
      returned_more at old now new above below e h =
          let found = get_inside nodes at (omega (arith, below, span.inside)) in
          let gives = same_gives inst found.0 ((span.exact at found.0 found.1).1 (above, below)) in
          grown (return_by n w) (leaver_if task inst) nodes at found.0 found.1 old now new e
          (h found.0 found.1 ∙ ap (λ leavers. now ++ returns_by n w leavers) (sym gives))
