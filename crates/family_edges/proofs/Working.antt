-- The expansion of one node.
use Rattle.std.proofs.Common.{◌≡◌, refl, sym, ap, ◌∙◌, subst, ℕ, ◌+◌, Bool, true, false, not, nat_eq, if◌then◌else◌, List, [], ◌∷◌, ◌++◌, length, cond, Option, Some, None, arith}
use Rattle.std.specs.List.{slice_get, find}
use Rattle.std.specs.Option.{option_map, option_eq}
use Rattle.std.proofs.lemmas.Bool.Decides.{nat_tests}
use Rattle.avr_model.specs.Assumptions.{has_pairs}
use Rattle.avr_model.specs.Devices.{device_of}
use Rattle.abs_state.specs.declared.state.AbsState.{AbsState}
use Rattle.node_keys.specs.declared.keys.NodeKey.{NodeKey}
use Rattle.node_keys.specs.Order.{same_node}
use Rattle.local_rules.specs.declared.local.Node.{Node}
use Rattle.edge_rules.specs.declared.seeded.NodeForm.{NodeForm}
use Rattle.edge_rules.specs.Expansion.{Seeds, AreSeeds, HasKeyAt, IsFilled, IsMissing}
use Rattle.edge_laws.specs.Carrying.{first_at, worked, AreExpandedSoFar}
use Rattle.edge_laws.proofs.ExpansionLaws.{same_seed, one_more, missing, whole}
use Rattle.edge_rules.specs.Seeds.{HasFormAt}
use Rattle.family_edges.specs.Expanding.{AreNumbered, AreKept}
use Rattle.family_edges.proofs.Returning.{get_kept}
use Rattle.local_rules.specs.Site.{Task}

pub same_number : (o : Option ℕ) (m : ℕ) → not (option_eq nat_eq o (Some m)) ≡ false → o ≡ Some m
same_number None m e = absurd cc
same_number (Some n) m e = let same : n ≡ m = grind (arith, nat_tests) in ap (λ i. Some i) same

-- kept successors stay so with one node more
pub still_kept : (task : Task) (done : List Node) (n : Node) (new : List Node) (from : Option ℕ) (list : List Node) → new ≡ done ++ n ∷ []
    → AreKept task done from list → AreKept task new from list
still_kept task done n new None list e kept = tt
still_kept task done n new (Some m) list e kept = (kept.0, (ap (λ (l : List Node). slice_get l m) e ∙ get_kept done n m kept.0 kept.1.0, kept.1.1))

seed_is : (nodes : Seeds) (at : ℕ) (k : NodeKey) (f : NodeForm) → HasKeyAt nodes at k → HasFormAt nodes at f → slice_get nodes at ≡ Some (k, f)
seed_is nodes at k f a b = a.1 ∙ (λ i. Some (k, (same_seed (slice_get nodes at) k b.0 a.0 f a.1 b.1).1 i))

module _ (task : Task) (nodes : Seeds) (at : ℕ) (done : List Node) (so : AreExpandedSoFar task nodes at done) where
  pub numbered : (list : List Node) → list ≡ done → AreNumbered (device_of task.flash) (has_pairs task.assumptions) list
  numbered list e = subst (AreNumbered (device_of task.flash) (has_pairs task.assumptions)) (sym e) (λ i n g. (so.each i n g).node)

  module _ (list : List Node) (e : list ≡ done) (k : NodeKey) (f : NodeForm) (a : HasKeyAt nodes at k) (b : HasFormAt nodes at f)
      (found : Option AbsState) (is : found ≡ worked task list k f) where
    pub gives_missing : found ≡ None → IsMissing task nodes at
    gives_missing none = missing task nodes at done so k f (seed_is nodes at k f a b) (ap (λ l. worked task l k f) (sym e) ∙ (sym is ∙ none))

    pub gives_more : AreSeeds (device_of task.flash) (has_pairs task.assumptions) nodes → (s : AbsState) (new : List Node) → found ≡ Some s → new ≡ done ++ record { key = k; state = s } ∷ []
        → AreExpandedSoFar task nodes (at + 1) new
    gives_more seeds s new some items =
        subst (AreExpandedSoFar task nodes (at + 1)) (sym items)
        (one_more task nodes seeds at done so k f s (seed_is nodes at k f a b) (ap (λ l. worked task l k f) (sym e) ∙ (sym is ∙ some)))

  pub gives_whole : (filled : List Node) → filled ≡ done → at ≡ length nodes → IsFilled task nodes filled
  gives_whole filled e full = subst (IsFilled task nodes) (sym e) (whole task nodes done (subst (λ x. AreExpandedSoFar task nodes x done) full so))

-- ---- the first node of a key

pub found_first : (k : NodeKey) (xs : List Node) → option_map (λ (n : Node). n.state) (find (λ n. same_node n.key k) xs) ≡ first_at k xs
found_first k [] = refl
found_first k (x ∷ xs) = by (same_node x.key k) (found_first k xs)
  where
    by : (b : Bool) → option_map (λ (n : Node). n.state) (find (λ n. same_node n.key k) xs) ≡ first_at k xs
        → option_map (λ (n : Node). n.state) (cond b (Some x) (find (λ n. same_node n.key k) xs)) ≡ (if b then Some x.state else first_at k xs)
    by true rest = refl
    by false rest = rest
