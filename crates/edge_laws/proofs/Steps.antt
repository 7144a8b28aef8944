-- Expansion of one node after the other.
use Rattle.std.proofs.Common.{◌≡◌, refl, sym, ap, ◌∙◌, subst, ℕ, zero, suc, ◌+◌, ◌<◌, ◌⊎◌, inl, inr, ⊎_elim, List, [], ◌∷◌, ◌++◌, length, Option, Some, None, Result, Ok, Err, arith, length-append}
use Rattle.std.specs.List.{slice_get}
use Rattle.std.proofs.lemmas.Option.{none-some, same_Some, slice_get_within}
use Rattle.basics.specs.Numbers.{same_if_neither}
use Rattle.basics.specs.Lists.{get_inside}
use Rattle.avr_model.specs.Assumptions.{has_pairs}
use Rattle.avr_model.specs.Devices.{device_of}
use Rattle.abs_state.specs.declared.state.AbsState.{AbsState}
use Rattle.node_keys.specs.declared.keys.NodeKey.{NodeKey}
use Rattle.local_rules.specs.declared.local.Local.{Local}
use Rattle.local_rules.specs.declared.local.Node.{Node}
use Rattle.local_rules.specs.declared.local.NodeFault.{NodeFault}
use Rattle.local_rules.specs.Local.{local}
use Rattle.edge_rules.specs.declared.seeded.NodeForm.{NodeForm}
use Rattle.edge_rules.specs.declared.seeded.NodeForm.TheVariants.{State, From}
use Rattle.edge_rules.specs.Expansion.{Seeds, IsExpansion, own, along, AreSeeds, states_at, IsFilled, IsMissing}
use Rattle.edge_laws.specs.Carrying.{first_at, picked, carried, worked, IsWorked, AreExpandedSoFar}
use Rattle.edge_laws.specs.Expansions.{FilledOrMissing}
use Rattle.edge_laws.proofs.Lists.{get_push, as_list, as_some, same_list, same_maps}
use Rattle.edge_laws.proofs.Successors.{only_first}
use Rattle.edge_laws.proofs.One.{same_seed, one, expansion_node}
use Rattle.local_rules.specs.Site.{Task}

module _ (task : Task) (nodes : Seeds) where
  pub none_yet : AreExpandedSoFar task nodes 0 []
  none_yet = record { count = refl; each = λ i n e. absurd (none-some n e) }

  -- ---- what is worked out is the expansion

  module _ (seeds : AreSeeds (device_of task.flash) (has_pairs task.assumptions) nodes) (at : ℕ) (done : List Node) (so : AreExpandedSoFar task nodes at done) (k : NodeKey) where
    picked_is : (m : ℕ) (s : AbsState) (n : Node) → slice_get nodes at ≡ Some (k, From m) → slice_get done m ≡ Some n → (r : Result Local NodeFault)
        → local task n.key n.state ≡ r → picked k r ≡ Some s → IsExpansion task nodes at s
    picked_is m s n e g (Ok l) is p =
        let w = so.each m n g in
        along at m k n.key w.key.0 n.state s l e (seeds.earlier at m k e) w.key.1 w.state is
        (only_first task n.key n.state l is k ∙ ap as_list p)
    picked_is m s n e g (Err f) is p = absurd (none-some s p)

    carried_is : (m : ℕ) (s : AbsState) (o : Option Node) → slice_get nodes at ≡ Some (k, From m) → slice_get done m ≡ o → carried task k o ≡ Some s
        → IsExpansion task nodes at s
    carried_is m s None e g p = absurd (none-some s p)
    carried_is m s (Some n) e g p = picked_is m s n e g (local task n.key n.state) refl p

    worked_is : (form : NodeForm) (s : AbsState) → slice_get nodes at ≡ Some (k, form) → worked task done k form ≡ Some s → IsExpansion task nodes at s
    worked_is (State t) s e p = subst (IsExpansion task nodes at) (same_Some t s p) (own at k t e)
    worked_is (From m) s e p = carried_is m s (slice_get done m) e refl p

  -- ---- and an expansion is worked out

  worked_all : (at : ℕ) (done : List Node) → AreExpandedSoFar task nodes at done → (k : NodeKey) (form : NodeForm) (s : AbsState) → slice_get nodes at ≡ Some (k, form)
      → IsExpansion task nodes at s → worked task done k form ≡ Some s
  worked_all _ done so k form _ e (own at j s f) = ap (worked task done k) (same_seed (slice_get nodes at) k j form (State s) e f).1
  worked_all _ done so k form _ e (along at m j i form2 s t l f lt g d is only) =
      let both = same_seed (slice_get nodes at) k j form (From m) e f in
      let found = get_inside done m (omega (arith, lt, so.count)) in
      let w = so.each m found.0 found.1 in
      let key : found.0.key ≡ i = (same_seed (slice_get nodes m) found.0.key i w.key.0 form2 w.key.1 g).0 in
      let state : found.0.state ≡ s = one task nodes m found.0.state s w.state d in
      let last : first_at k l.same ≡ Some t = as_some (first_at k l.same) t
      (sym (only_first task i s l is k) ∙ (ap (λ x. states_at x l.same) both.0 ∙ only)) in
      ap (worked task done k) both.1
      ∙ (ap (carried task k) found.1 ∙ ((λ x. picked k (local task (key x) (state x))) ∙ (ap (picked k) is ∙ last)))

  -- ---- one node more

  pub one_more : AreSeeds (device_of task.flash) (has_pairs task.assumptions) nodes → (at : ℕ) (done : List Node) → AreExpandedSoFar task nodes at done → (k : NodeKey) (form : NodeForm) (s : AbsState)
      → slice_get nodes at ≡ Some (k, form) → worked task done k form ≡ Some s → AreExpandedSoFar task nodes (at + 1) (done ++ record { key = k; state = s } ∷ [])
  one_more seeds at done so k form s e p = record {
    count = omega (arith, length-append done (record { key = k; state = s } ∷ []), so.count);
    each = λ i n g. ⊎_elim (so.each i n) (λ last. subst (λ x. IsWorked task nodes x n) (sym (last.0 ∙ so.count)) (subst (IsWorked task nodes at) (sym last.1) new))
        (get_push done (record { key = k; state = s }) n i g);
  }
    where
      is : IsExpansion task nodes at s
      is = worked_is seeds at done so k form s e p

      new : IsWorked task nodes at (record { key = k; state = s })
      new = record { key = (form, e); state = is; node = expansion_node task nodes seeds at k form s e is }

  pub missing : (at : ℕ) (done : List Node) → AreExpandedSoFar task nodes at done → (k : NodeKey) (form : NodeForm)
      → slice_get nodes at ≡ Some (k, form) → worked task done k form ≡ None → IsMissing task nodes at
  missing at done so k form e p = record {
    inside = slice_get_within nodes at (k, form) e;
    none = λ s x. none-some s (sym p ∙ worked_all at done so k form s e x);
    before = λ i lt. let found = get_inside done i (omega (arith, lt, so.count)) in (found.0.state, (so.each i found.0 found.1).state);
  }

  pub whole : (done : List Node) → AreExpandedSoFar task nodes (length nodes) done → IsFilled task nodes done
  whole done so = record {
    count = so.count;
    keys = λ i n g. (so.each i n g).key;
    states = λ i n g. (so.each i n g).state;
    formed = λ i n g. (so.each i n g).node;
  }

  -- ---- to the end

  abbrev Decided : Type 0
  Decided = ((filled : List Node) × IsFilled task nodes filled) ⊎ ((at : ℕ) × IsMissing task nodes at)

  go : AreSeeds (device_of task.flash) (has_pairs task.assumptions) nodes → (left at : ℕ) (done : List Node) → at + left ≡ length nodes → AreExpandedSoFar task nodes at done → Decided
  go seeds zero at done e so = let full : at ≡ length nodes = omega (arith, e) in inl (done, whole done (subst (λ x. AreExpandedSoFar task nodes x done) full so))
  go seeds (suc left) at done e so =
      by (λ new more. go seeds left (at + 1) new (omega (arith, e)) more) (worked task done seed.0.0 seed.0.1) refl
    where
      seed : (x : NodeKey × NodeForm) × (slice_get nodes at ≡ Some x)
      seed = get_inside nodes at (omega (arith, e))

      by : ((new : List Node) → AreExpandedSoFar task nodes (at + 1) new → Decided) → (o : Option AbsState) → worked task done seed.0.0 seed.0.1 ≡ o → Decided
      by rest None p = inr (at, missing at done so seed.0.0 seed.0.1 seed.1 p)
      by rest (Some s) p = rest (done ++ record { key = seed.0.0; state = s } ∷ []) (one_more seeds at done so seed.0.0 seed.0.1 s seed.1 p)

  apart : (filled : List Node) (at : ℕ) → IsFilled task nodes filled → IsMissing task nodes at → ⊥
  apart filled at f m = let found = get_inside filled at (omega (arith, m.inside, f.count)) in m.none found.0.state (f.states at found.0 found.1)

  one_filled : (f g : List Node) → IsFilled task nodes f → IsFilled task nodes g → (i : ℕ) (n m : Node) → slice_get f i ≡ Some n → slice_get g i ≡ Some m → n ≡ m
  one_filled f g a b i n m e h =
      let key : n.key ≡ m.key = (same_seed (slice_get nodes i) n.key m.key (a.keys i n e).0 (b.keys i m h).0 (a.keys i n e).1 (b.keys i m h).1).0 in
      let state : n.state ≡ m.state = one task nodes i n.state m.state (a.states i n e) (b.states i m h) in
      (λ x. record { key = key x; state = state x })

  not_before : (i j : ℕ) → IsMissing task nodes i → IsMissing task nodes j → i < j → ⊥
  not_before i j a b lt = let x = b.before i lt in a.none x.0 x.1

pub filled_or_missing : FilledOrMissing
filled_or_missing = record {
  decided = λ task nodes seeds. go task nodes seeds (length nodes) 0 [] (omega arith) (none_yet task nodes);
  apart = apart;
  keys = λ task nodes filled f. same_maps (λ (n : Node). n.key) (λ (e : NodeKey × NodeForm). e.0) filled nodes f.count
      (λ i n e g h. (same_seed (slice_get nodes i) n.key e.0 (f.keys i n g).0 e.1 (f.keys i n g).1 h).0);
  one = λ task nodes f g a b. same_list f g (a.count ∙ sym b.count) (one_filled task nodes f g a b);
  least = λ task nodes i j a b. same_if_neither i j (not_before task nodes i j a b) (not_before task nodes j i b a);
}
