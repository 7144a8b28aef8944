-- The place of a key, and of an instance's nodes, in an ascending list.
use Rattle.std.proofs.Common.{◌≡◌, refl, sym, ap, ◌∙◌, subst, ℕ, zero, suc, ◌+◌, ◌<◌, ◌≤◌, ◌⊎◌, inl, inr, ⊎_elim, Bool, true, false, List, [], ◌∷◌, length, Some, None, slice_get, get_or, arith}
use Rattle.std.specs.List.{position_from}
use Rattle.std.specs.List.Sorted.{IsPartitionedBy, IsPartitionPoint}
use Rattle.std.specs.Ordering.{is_lt, is_le}
use Rattle.std.specs.declared.cmp.Ordering.{Ordering}
use Rattle.std.specs.declared.cmp.Ordering.TheVariants.{Less, Equal, Greater}
use Rattle.std.proofs.lemmas.Option.{slice_get_within, get_or_from_slice_get, slice_get-get_or, same_Some, none-some}
use Rattle.std.proofs.lemmas.Bool.Decides.{eqb_tells}
use Rattle.basics.specs.Booleans.{less_by_test, never_both}
use Rattle.basics.specs.Lists.{get_inside}
use Rattle.edge_rules.specs.Places.{pair}
use Rattle.node_keys.specs.declared.keys.InstKey.{InstKey}
use Rattle.node_keys.specs.declared.keys.NodeKey.{NodeKey}
use Rattle.node_keys.specs.Order.{inst_cmp, node_cmp, same_node}
use Rattle.node_keys.proofs.AllLaws.{keys_are_ordered, nodes_go_by_instance}
use Rattle.local_rules.specs.declared.local.Node.{Node}
use Rattle.edge_rules.specs.Views.{IsSpan, index_of}
use Rattle.family_edges.specs.Shown.{AreOfSomeDevice}

-- ---- orderings

between_is : (o : Ordering) → is_lt o ≡ false → is_le o ≡ true → o ≡ Equal
between_is Less e h = absurd (cc)
between_is Equal e h = refl
between_is Greater e h = absurd (cc)

not_both : (o : Ordering) → is_lt o ≡ true → is_le o ≡ false → ⊥
not_both Less e h = cc
not_both Equal e h = cc
not_both Greater e h = cc

-- ---- lists

either : (a b : ℕ) → (a ≤ b) ⊎ (b < a)
either zero b = inl (omega arith)
either (suc a) zero = inr (omega arith)
either (suc a) (suc b) = ⊎_elim (λ h. inl (omega (arith, h))) (λ h. inr (omega (arith, h))) (either a b)

found_at : (t : Node → Bool) (xs : List Node) (s i : ℕ) (x : Node) → slice_get xs i ≡ Some x → t x ≡ true
    → ((j : ℕ) (y : Node) → j < i → slice_get xs j ≡ Some y → t y ≡ false) → position_from t s xs ≡ Some (s + i)
found_at t [] s i x e is h = absurd (none-some x e)
found_at t (y ∷ ys) s zero x e is h = rw (ap t (same_Some y x e) ∙ is) (ap (λ n. Some n) (omega arith))
found_at t (y ∷ ys) s (suc i) x e is h =
    rw (h 0 y (omega arith) refl)
    (found_at t ys (s + 1) i x e is (λ j z lt g. h (suc j) z (omega (arith, lt)) g) ∙ ap (λ n. Some n) (omega arith))

none_at : (t : Node → Bool) (xs : List Node) (s : ℕ) → ((j : ℕ) (y : Node) → slice_get xs j ≡ Some y → t y ≡ false) → position_from t s xs ≡ None
none_at t [] s h = refl
none_at t (y ∷ ys) s h = rw (h 0 y refl) (none_at t ys (s + 1) (λ j z g. h (suc j) z g))

-- a test that holds up to some place and not after it splits the list
parted_by : (p : Node → Bool) (nodes : List Node) → AreOfSomeDevice nodes → ((a b : Node) → node_cmp a.key b.key ≡ Less → p b ≡ true → p a ≡ true)
    → IsPartitionedBy p nodes
parted_by p nodes shown falls = λ i j d le lt up.
    ⊎_elim (λ e. subst (λ k. p (get_or nodes k d) ≡ true) (sym e.1) up)
    (λ ne. falls (get_or nodes i d) (get_or nodes j d)
    (pair nodes i j (get_or nodes i d) (get_or nodes j d) shown.1.ascending (slice_get-get_or nodes i d (omega (arith, le, lt))) (slice_get-get_or nodes j d lt)
    (let d = ne.1 in omega (arith, le, d))) up)
    (eqb_tells i j)

-- the test at a number, before the point and from it on
module _ (p : Node → Bool) (nodes : List Node) (point : ℕ) (h : IsPartitionPoint (λ n. p n ≡ true) (λ n. p n ≡ false) nodes point) where
  pub before : (at : ℕ) (n : Node) → slice_get nodes at ≡ Some n → at < point → p n ≡ true
  before at n e lt = subst (λ m. p m ≡ true) (get_or_from_slice_get nodes at n n e) (h.0 at n (omega arith) lt)

  pub from_on : (at : ℕ) (n : Node) → slice_get nodes at ≡ Some n → point ≤ at → p n ≡ false
  from_on at n e le = subst (λ m. p m ≡ false) (get_or_from_slice_get nodes at n n e) (h.1 at n le (slice_get_within nodes at n e))

-- ---- a key

abbrev pub is_below_key : NodeKey → Node → Bool
is_below_key k n = is_lt (node_cmp n.key k)

pub parted_by_key : (nodes : List Node) (k : NodeKey) → AreOfSomeDevice nodes → IsPartitionedBy (is_below_key k) nodes
parted_by_key nodes k shown =
    parted_by (is_below_key k) nodes shown
    (λ a b lt up. ap is_lt (keys_are_ordered.nodes.trans a.key b.key k lt (less_by_test (node_cmp b.key k) up)))

not_same_by : (k : NodeKey) (n : Node) (b : Bool) → same_node k n.key ≡ b → (k ≡ n.key → ⊥) → b ≡ false
not_same_by k n true e h = absurd (h ((keys_are_ordered.same_nodes k n.key).0 e))
not_same_by k n false e h = refl

not_same : (k : NodeKey) (n : Node) → (k ≡ n.key → ⊥) → same_node k n.key ≡ false
not_same k n h = not_same_by k n (same_node k n.key) refl h

itself : (k : NodeKey) → is_lt (node_cmp k k) ≡ false
itself k = ap is_lt ((keys_are_ordered.equal_nodes k k).1 refl)

module _ (nodes : List Node) (k : NodeKey) (at : ℕ) (shown : AreOfSomeDevice nodes)
    (point : IsPartitionPoint (λ n. is_below_key k n ≡ true) (λ n. is_below_key k n ≡ false) nodes at) where
  lower : (j : ℕ) (y : Node) → j < at → slice_get nodes j ≡ Some y → same_node k y.key ≡ false
  lower j y lt e =
      not_same k y
      (λ same. never_both (is_below_key k y) (before (is_below_key k) nodes at point j y e lt) (subst (λ x. is_lt (node_cmp x k) ≡ false) same (itself k)))

  pub place_there : (n : Node) → slice_get nodes at ≡ Some n → n.key ≡ k → Some at ≡ index_of k nodes
  place_there n e same =
      let zero_more : at ≡ 0 + at = omega arith in
      ap (λ m. Some m) zero_more ∙ sym (found_at (λ m. same_node k m.key) nodes 0 at n e ((keys_are_ordered.same_nodes k n.key).1 (sym same)) lower)

  pub place_past : length nodes ≤ at → None ≡ index_of k nodes
  place_past le = sym (none_at (λ m. same_node k m.key) nodes 0 (λ j y e. lower j y (let i = slice_get_within nodes j y e in omega (arith, i, le)) e))

  -- later nodes are above the one at the point, which isn't below the key
  later : (n : Node) → slice_get nodes at ≡ Some n → (n.key ≡ k → ⊥) → (j : ℕ) (y : Node) → at ≤ j → slice_get nodes j ≡ Some y → same_node k y.key ≡ false
  later n e other j y le g =
      not_same k y
      (λ same. ⊎_elim
      (λ q. other (ap (λ (m : Node). m.key) (same_Some n y (sym e ∙ (ap (slice_get nodes) q.1 ∙ g))) ∙ sym same))
      (λ q. never_both (is_below_key k n)
      (ap is_lt (subst (λ x. node_cmp n.key x ≡ Less) (sym same) (pair nodes at j n y shown.1.ascending e g (let d = q.1 in omega (arith, le, d)))))
      (from_on (is_below_key k) nodes at point at n e (omega arith)))
      (eqb_tells at j))

  pub place_none : (n : Node) → slice_get nodes at ≡ Some n → (n.key ≡ k → ⊥) → None ≡ index_of k nodes
  place_none n e other =
      sym (none_at (λ m. same_node k m.key) nodes 0 (λ j y g. ⊎_elim (λ le. later n e other j y le g) (λ lt. lower j y lt g) (either at j)))

-- ---- an instance

abbrev pub is_below_inst : InstKey → Node → Bool
is_below_inst inst n = is_lt (inst_cmp n.key.inst inst)

abbrev pub is_through_inst : InstKey → Node → Bool
is_through_inst inst n = is_le (inst_cmp n.key.inst inst)

le_by : (a b c : InstKey) (o : Ordering) → inst_cmp a b ≡ Less → inst_cmp b c ≡ o → is_le o ≡ true → is_le (inst_cmp a c) ≡ true
le_by a b c Less lt e up = ap is_le (keys_are_ordered.insts.trans a b c lt e)
le_by a b c Equal lt e up = ap is_le (subst (λ x. inst_cmp a x ≡ Less) ((keys_are_ordered.equal_insts b c).0 e) lt)
le_by a b c Greater lt e up = absurd (cc)

pub parted_below : (nodes : List Node) (inst : InstKey) → AreOfSomeDevice nodes → IsPartitionedBy (is_below_inst inst) nodes
parted_below nodes inst shown =
    parted_by (is_below_inst inst) nodes shown
    (λ a b lt up. ⊎_elim (λ h. ap is_lt (keys_are_ordered.insts.trans a.key.inst b.key.inst inst h (less_by_test (inst_cmp b.key.inst inst) up)))
    (λ same. subst (λ x. is_lt (inst_cmp x inst) ≡ true) (sym same) up) (nodes_go_by_instance.rises a.key b.key lt))

pub parted_through : (nodes : List Node) (inst : InstKey) → AreOfSomeDevice nodes → IsPartitionedBy (is_through_inst inst) nodes
parted_through nodes inst shown =
    parted_by (is_through_inst inst) nodes shown
    (λ a b lt up. ⊎_elim (λ h. le_by a.key.inst b.key.inst inst (inst_cmp b.key.inst inst) h refl up)
    (λ same. subst (λ x. is_le (inst_cmp x inst) ≡ true) (sym same) up) (nodes_go_by_instance.rises a.key b.key lt))

module _ (nodes : List Node) (inst : InstKey) (low high : ℕ) (low_bound : low ≤ length nodes) (high_bound : high ≤ length nodes)
    (first : IsPartitionPoint (λ n. is_below_inst inst n ≡ true) (λ n. is_below_inst inst n ≡ false) nodes low)
    (last : IsPartitionPoint (λ n. is_through_inst inst n ≡ true) (λ n. is_through_inst inst n ≡ false) nodes high) where
  not_above : high < low → ⊥
  not_above lt =
      let n = get_inside nodes high (omega (arith, lt, low_bound)) in
      not_both (inst_cmp n.0.key.inst inst) (before (is_below_inst inst) nodes low first high n.0 n.1 lt)
      (from_on (is_through_inst inst) nodes high last high n.0 n.1 (omega arith))

  equal : (n : Node) → n.key.inst ≡ inst → inst_cmp n.key.inst inst ≡ Equal
  equal n same = (keys_are_ordered.equal_insts n.key.inst inst).1 same

  pub span_there : IsSpan nodes inst low high
  span_there = record {
    order = ⊎_elim (λ h. h) (λ lt. absurd (not_above lt)) (either low high);
    inside = high_bound;
    exact = λ at n e. (
      λ same. (
        ⊎_elim (λ h. h) (λ lt. absurd (never_both (is_below_inst inst n) (before (is_below_inst inst) nodes low first at n e lt) (ap is_lt (equal n same)))) (either low at),
        ⊎_elim (λ h. absurd (never_both (is_through_inst inst n) (ap is_le (equal n same)) (from_on (is_through_inst inst) nodes high last at n e h))) (λ h. h) (either high at),
      ),
      λ p. (keys_are_ordered.equal_insts n.key.inst inst).0
          (between_is (inst_cmp n.key.inst inst) (from_on (is_below_inst inst) nodes low first at n e p.0) (before (is_through_inst inst) nodes high last at n e p.1)),
    );
  }

-- a node's key is found at its number
pub place_is : (nodes : List Node) (k : NodeKey) (at : ℕ) (n : Node) → AreOfSomeDevice nodes → slice_get nodes at ≡ Some n → n.key ≡ k → Some at ≡ index_of k nodes
place_is nodes k at n shown e same =
    let zero_more : at ≡ 0 + at = omega arith in
    ap (λ m. Some m) zero_more ∙ sym (found_at (λ m. same_node k m.key) nodes 0 at n e ((keys_are_ordered.same_nodes k n.key).1 (sym same)) others)
  where
    others : (j : ℕ) (y : Node) → j < at → slice_get nodes j ≡ Some y → same_node k y.key ≡ false
    others j y lt g =
        not_same k y
        (λ q. never_both (is_below_key y.key y)
        (ap is_lt (subst (λ x. node_cmp y.key x ≡ Less) (same ∙ q) (pair nodes j at y n shown.1.ascending g e lt))) (itself y.key))
