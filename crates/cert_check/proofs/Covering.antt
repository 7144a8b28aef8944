-- Look-ups by key, and the least key of an edge that does not land.
use Rattle.std.proofs.Common.{◌≡◌, refl, sym, ap, ◌∙◌, subst, ℕ, ◌⊎◌, inl, inr, Bool, true, false, cond, List, length, Some, None, slice_get, Contains}
use Rattle.std.specs.Prelude.{◌↔◌}
use Rattle.std.specs.Option.{option_map}
use Rattle.std.specs.Ordering.{is_le, ordering_reverse}
use Rattle.std.specs.declared.cmp.Ordering.{Ordering}
use Rattle.std.specs.declared.cmp.Ordering.TheVariants.{Less, Equal, Greater}
use Rattle.std.proofs.lemmas.Option.{same_Some}
use Rattle.basics.specs.Items.{contained_at}
use Rattle.avr_model.specs.declared.device.Device.{Device}
use Rattle.edge_rules.specs.Places.{found_at, none_from, one_in}
use Rattle.abs_state.specs.declared.state.AbsState.{AbsState}
use Rattle.abs_state.specs.Order.{IsStateWithin}
use Rattle.node_keys.specs.declared.keys.NodeKey.{NodeKey}
use Rattle.node_keys.specs.Order.{node_cmp}
use Rattle.node_keys.proofs.AllLaws.{keys_are_ordered}
use Rattle.local_rules.specs.declared.local.Node.{Node}
use Rattle.edge_rules.specs.Expansion.{Seeds}
use Rattle.edge_rules.specs.Families.{IsCovered}
use Rattle.edge_rules.specs.Views.{AreShown, state_of, index_of}
use Rattle.cert_check.specs.Demands.{HasSlots, GapAt, LeadsToNode, KeyBelow, lesser_key}
use Rattle.cert_check.proofs.Lists.{IsLesser}

-- ---- by key

state_is : (nodes : List Node) (at : ℕ) (n : Node) (t : AbsState) → slice_get nodes at ≡ Some n → option_map state_of (slice_get nodes at) ≡ Some t → n.state ≡ t
state_is nodes at n t is e = same_Some n.state t (sym (ap (option_map state_of) is) ∙ e)

module _ (nodes : List Node) (k : NodeKey) (s : AbsState) (at : ℕ) (t : AbsState) {device : Device} (shown : AreShown device nodes) (found : index_of k nodes ≡ Some at)
    (is : option_map state_of (slice_get nodes at) ≡ Some t) where
  held : Contains nodes (record { key = k; state = t })
  held =
      let w = found_at k nodes at found in
      subst (λ (x : AbsState). Contains nodes (record { key = k; state = x })) (state_is nodes at w.node t w.is is)
      (subst (λ (x : NodeKey). Contains nodes (record { key = x; state = w.node.state })) w.same (contained_at nodes at w.node w.is))

  pub covered_at : IsStateWithin s t ↔ IsCovered nodes (record { key = k; state = s })
  covered_at = (
    λ h. record { state = t; present = held; above = h },
    λ h. subst (IsStateWithin s)
        (ap state_of (one_in nodes shown.ascending (record { key = k; state = h.state }) (record { key = k; state = t }) h.present held refl)) h.above,
  )

  pub same_slots : HasSlots k s → length s.slots ≡ length t.slots
  same_slots slots = slots ∙ sym (shown.all (record { key = k; state = t }) held).formed.count_slots

pub not_covered : (nodes : List Node) (k : NodeKey) (s : AbsState) → index_of k nodes ≡ None → IsCovered nodes (record { key = k; state = s }) → ⊥
not_covered nodes k s none h = none_from k nodes 0 none (record { key = k; state = h.state }) h.present refl

-- ---- the lesser key

not_greater : (o : Ordering) → is_le o ≡ true → o ≡ Greater → ⊥
not_greater Less e g = cc
not_greater Equal e g = cc
not_greater Greater e g = cc

is_greater : (o : Ordering) → is_le o ≡ false → o ≡ Greater
is_greater Less e = absurd (cc)
is_greater Equal e = absurd (cc)
is_greater Greater e = refl

itself : (k : NodeKey) → KeyBelow k k
itself k g = let e = (keys_are_ordered.equal_nodes k k).1 refl in cc

turned : (a b : NodeKey) → node_cmp a b ≡ Greater → KeyBelow b a
turned a b g h = let e : node_cmp b a ≡ ordering_reverse (node_cmp a b) = keys_are_ordered.nodes.antisymm b a in
    let f : node_cmp b a ≡ Less = e ∙ ap ordering_reverse g in cc

along_by : (a b c : NodeKey) (o p : Ordering) → node_cmp a b ≡ o → node_cmp b c ≡ p → KeyBelow a b → KeyBelow b c → KeyBelow a c
along_by a b c Less Less e f h i g = let less = keys_are_ordered.nodes.trans a b c e f in cc
along_by a b c Less Equal e f h i g =
    let less : node_cmp a c ≡ Less = subst (λ z. node_cmp a z ≡ Less) ((keys_are_ordered.equal_nodes b c).0 f) e in cc
along_by a b c Less Greater e f h i g = i f
along_by a b c Equal p e f h i g = i (sym (keys_are_ordered.nodes.congr a b c e) ∙ g)
along_by a b c Greater p e f h i g = h e

either_by : (b k : NodeKey) (t : Bool) → (cond t b k ≡ b) ⊎ (cond t b k ≡ k)
either_by b k true = inl refl
either_by b k false = inr refl

left_by : (b k : NodeKey) (t : Bool) → is_le (node_cmp b k) ≡ t → KeyBelow (cond t b k) b
left_by b k true e = itself b
left_by b k false e = turned b k (is_greater (node_cmp b k) e)

right_by : (b k : NodeKey) (t : Bool) → is_le (node_cmp b k) ≡ t → KeyBelow (cond t b k) k
right_by b k true e = not_greater (node_cmp b k) e
right_by b k false e = itself k

pub lesser_keys : (followed : Bool) (own : Seeds) (nodes : List Node) → IsLesser (LeadsToNode followed own nodes) (GapAt followed own nodes) KeyBelow lesser_key
lesser_keys followed own nodes = record {
  apart = λ x k clear o. o.1 clear;
  first = λ k. refl;
  either = λ b k. either_by b k (is_le (node_cmp b k));
  left = λ b k. left_by b k (is_le (node_cmp b k)) refl;
  right = λ b k. right_by b k (is_le (node_cmp b k)) refl;
  same = itself;
  along = λ a b c h i. along_by a b c (node_cmp a b) (node_cmp b c) refl refl h i;
}

pub key_antisymmetric : (a b : NodeKey) → KeyBelow a b → KeyBelow b a → a ≡ b
key_antisymmetric a b h i = by (node_cmp a b) refl
  where
    by : (o : Ordering) → node_cmp a b ≡ o → a ≡ b
    by Less e = let f : node_cmp b a ≡ Greater = keys_are_ordered.nodes.antisymm b a ∙ ap ordering_reverse e in absurd (i f)
    by Equal e = (keys_are_ordered.equal_nodes a b).0 e
    by Greater e = absurd (h e)
