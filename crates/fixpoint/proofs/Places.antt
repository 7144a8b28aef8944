-- The number of a key's node.
use Rattle.std.proofs.Common.{◌≡◌, ◌≢◌, refl, sym, ap, ◌∙◌, subst, ℕ, ◌<◌, ◌==◌, inl, inr, Bool, true, false, cond, List, length, get_or, Option, Some, None, Contains, slice_get, slice_set, arith}
use Rattle.std.proofs.lemmas.Bool.{cases_order}
use Rattle.std.proofs.lemmas.Bool.Decides.{nat_tests}
use Rattle.std.proofs.lemmas.List.{get_or-set_same, get_or-set_other, length-set}
use Rattle.std.proofs.lemmas.Option.{slice_get-get_or}
use Rattle.std.specs.declared.cmp.Ordering.TheVariants.{Less}
use Rattle.basics.specs.Items.{contained_at}
use Rattle.edge_laws.proofs.AllLaws.{not_below_itself}
use Rattle.avr_model.specs.declared.device.Device.{Device}
use Rattle.node_keys.specs.declared.keys.NodeKey.{NodeKey}
use Rattle.node_keys.specs.Order.{node_cmp}
use Rattle.local_rules.specs.declared.local.Node.{Node}
use Rattle.edge_rules.specs.Places.{found_at, none_from}
use Rattle.edge_rules.specs.Views.{AreShown, index_of}
use Rattle.family_edges.specs.declared.landing.Landing.{Landing}
use Rattle.round_solutions.proofs.AllLaws.{node_before}
use Rattle.fixpoint.specs.declared.leading.Lead.{Lead}
use Rattle.fixpoint.specs.declared.leading.Lead.TheVariants.{Nothing}
use Rattle.fixpoint.specs.Leads.{led, lead_at, noted}

-- nodes of one key have one number
one_place : {device : Device} (nodes : List Node) → AreShown device nodes → (p q : ℕ) (m n : Node) → slice_get nodes p ≡ Some m → slice_get nodes q ≡ Some n → m.key ≡ n.key → p ≡ q
one_place nodes shown p q m n a b e =
    elim (cases_order p q) [
      | inl same ↦ same
      | inr (inl lt) ↦ absurd (not_below_itself n.key (subst (λ (k : NodeKey). node_cmp k n.key ≡ Less) e (node_before nodes p q m n shown.ascending a b lt)))
      | inr (inr gt) ↦ absurd (not_below_itself n.key (subst (λ (k : NodeKey). node_cmp n.key k ≡ Less) e (node_before nodes q p n m shown.ascending b a gt)))
    ]

pub place_is : {device : Device} (nodes : List Node) → AreShown device nodes → (p : ℕ) (n : Node) → slice_get nodes p ≡ Some n → index_of n.key nodes ≡ Some p
place_is nodes shown p n is = by (index_of n.key nodes) refl
  where
    by : (o : Option ℕ) → index_of n.key nodes ≡ o → index_of n.key nodes ≡ Some p
    by None e = absurd (none_from n.key nodes 0 e n (contained_at nodes p n is) refl)
    by (Some q) e = let w = found_at n.key nodes q e in e ∙ ap Some (one_place nodes shown q p w.node n w.is is w.same)

-- ---- where an edge lands is noted

module _ (at : ℕ) (leads : List Lead) (l : Landing) where
  pub noted_long : length (noted at leads l) ≡ length leads
  noted_long = length-set leads l.at (led (lead_at leads l.at) at l.kind)

  -- at this number, and at no other
  pub noted_there : (p : ℕ) → p < length leads → lead_at (noted at leads l) p ≡ cond (l.at == p) (led (lead_at leads p) at l.kind) (lead_at leads p)
  noted_there p lt = by (l.at == p) refl
    where
      by : (b : Bool) → (l.at == p) ≡ b → lead_at (noted at leads l) p ≡ cond b (led (lead_at leads p) at l.kind) (lead_at leads p)
      by true t =
          let same : l.at ≡ p = grind (arith, nat_tests) in
          subst (λ (i : ℕ). lead_at (slice_set leads i (led (lead_at leads i) at l.kind)) p ≡ led (lead_at leads p) at l.kind) (sym same)
          (get_or-set_same leads p (led (lead_at leads p) at l.kind) Nothing lt)
      by false t =
          let other : p ≢ l.at = λ same. grind (arith, nat_tests) in
          get_or-set_other leads l.at p (led (lead_at leads l.at) at l.kind) Nothing other

-- the target of a landing that is read by number
pub landing_within : (landings : List Landing) (n m : ℕ) → ((l : Landing) → Contains landings l → l.at < n) → m ≡ n → (i : ℕ) → i < length landings → (d : Landing)
    → (get_or landings i d).at < m
landing_within landings n m within same i lt d =
    let below = within (get_or landings i d) (contained_at landings i (get_or landings i d) (slice_get-get_or landings i d lt)) in
    omega (arith, below, same)
