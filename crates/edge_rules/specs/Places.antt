-- Nodes by key and by number, in an ascending list.
use Rattle.std.proofs.Common.{◌≡◌, refl, sym, ◌∙◌, subst, ℕ, zero, suc, ◌+◌, ◌<◌, ⊎_elim, Bool, true, false, cond, List, [], ◌∷◌, map, Some, None, slice_get, Contains, arith}
use Rattle.std.specs.List.{position_from, AllByRecursion}
use Rattle.std.specs.List.Sorted.{IsStrictlySortedBy}
use Rattle.std.specs.declared.cmp.Ordering.TheVariants.{Less}
use Rattle.std.proofs.lemmas.Option.{none-some, same_Some}
use Rattle.basics.specs.Items.{none_in, first_or_further}
use Rattle.node_keys.specs.declared.keys.NodeKey.{NodeKey}
use Rattle.node_keys.specs.Order.{node_cmp, same_node}
use Rattle.node_keys.proofs.AllLaws.{keys_are_ordered}
use Rattle.local_rules.specs.declared.local.Node.{Node}
use Rattle.edge_rules.specs.Views.{key_of, index_of}

-- ---- by key

-- the node of this number has the key
pub record FoundAt (k : NodeKey) (nodes : List Node) (at : ℕ) : Type 0 where
  pub node : Node
  pub is : slice_get nodes at ≡ Some node
  pub same : node.key ≡ k

pub found_from : (k : NodeKey) (nodes : List Node) (s at : ℕ) → position_from (λ n. same_node k n.key) s nodes ≡ Some at
    → (i : ℕ) × ((at ≡ s + i) × FoundAt k nodes i)
found_from k [] s at e = absurd (none-some at e)
found_from k (n ∷ ns) s at e = by (found_from k ns (s + 1) at) (same_node k n.key) refl e
  where
    by : (position_from (λ n. same_node k n.key) (s + 1) ns ≡ Some at → (i : ℕ) × ((at ≡ s + 1 + i) × FoundAt k ns i)) → (b : Bool) → same_node k n.key ≡ b
        → cond b (Some s) (position_from (λ n. same_node k n.key) (s + 1) ns) ≡ Some at → (i : ℕ) × ((at ≡ s + i) × FoundAt k (n ∷ ns) i)
    by rest true is e = (
      0,
      (let same = same_Some s at e in omega (arith, same), record { node = n; is = refl; same = sym ((keys_are_ordered.same_nodes k n.key).0 is) }),
    )
    by rest false is e =
        let w = rest e in
        (suc w.0, (omega (arith, w.1.0), record { node = w.1.1.node; is = w.1.1.is; same = w.1.1.same }))

pub found_at : (k : NodeKey) (nodes : List Node) (at : ℕ) → index_of k nodes ≡ Some at → FoundAt k nodes at
found_at k nodes at e =
    let w = found_from k nodes 0 at e in
    subst (FoundAt k nodes) (omega (arith, w.1.0)) w.1.1

pub none_from : (k : NodeKey) (nodes : List Node) (s : ℕ) → position_from (λ n. same_node k n.key) s nodes ≡ None → (n : Node) → Contains nodes n → n.key ≡ k → ⊥
none_from k [] s e n h same = none_in n h
none_from k (x ∷ xs) s e n h same = by (none_from k xs (s + 1)) (same_node k x.key) refl e
  where
    by : (position_from (λ n. same_node k n.key) (s + 1) xs ≡ None → (n : Node) → Contains xs n → n.key ≡ k → ⊥) → (b : Bool) → same_node k x.key ≡ b
        → cond b (Some s) (position_from (λ n. same_node k n.key) (s + 1) xs) ≡ None → ⊥
    by rest true is e = cc
    by rest false is e =
        ⊎_elim (λ first. let up = (keys_are_ordered.same_nodes k x.key).1 (sym (subst (λ (z : Node). z.key ≡ k) first same)) in cc)
        (λ i. rest e n i same) (first_or_further x n xs h)

pub all_of : (P : NodeKey → Type 0) (xs : List Node) (n : Node) → AllByRecursion P (map key_of xs) → Contains xs n → P n.key
all_of P [] n h i = absurd (none_in n i)
all_of P (x ∷ xs) n h i = ⊎_elim (λ e. subst (λ (z : Node). P z.key) (sym e) h.0) (all_of P xs n h.1) (first_or_further x n xs i)

pub not_itself : (a b : NodeKey) → node_cmp a b ≡ Less → a ≡ b → ⊥
not_itself a b lt e = let same = (keys_are_ordered.equal_nodes a b).1 e in cc

pub one_in : (nodes : List Node) → IsStrictlySortedBy node_cmp (map key_of nodes) → (m n : Node) → Contains nodes m → Contains nodes n → m.key ≡ n.key → m ≡ n
unfolding IsStrictlySortedBy
one_in [] s m n hm hn e = absurd (none_in m hm)
one_in (x ∷ xs) s m n hm hn e =
    ⊎_elim
    (λ a. ⊎_elim (λ b. a ∙ sym b)
    (λ j. absurd (not_itself x.key n.key (all_of (λ k. node_cmp x.key k ≡ Less) xs n s.0 j) (subst (λ (z : Node). z.key ≡ n.key) a e)))
    (first_or_further x n xs hn))
    (λ i. ⊎_elim (λ b. absurd (not_itself x.key m.key (all_of (λ k. node_cmp x.key k ≡ Less) xs m s.0 i) (sym (subst (λ (z : Node). m.key ≡ z.key) b e))))
    (λ j. one_in xs s.1 m n i j e) (first_or_further x n xs hn))
    (first_or_further x m xs hm)

-- ---- by place

pub all_at : (P : NodeKey → Type 0) (xs : List Node) (j : ℕ) (b : Node) → AllByRecursion P (map key_of xs) → slice_get xs j ≡ Some b → P b.key
all_at P [] j b h e = absurd (none-some b e)
all_at P (x ∷ xs) zero b h e = subst (λ (n : Node). P n.key) (same_Some x b e) h.0
all_at P (x ∷ xs) (suc j) b h e = all_at P xs j b h.1 e

pub pair : (xs : List Node) (i j : ℕ) (a b : Node) → IsStrictlySortedBy node_cmp (map key_of xs) → slice_get xs i ≡ Some a → slice_get xs j ≡ Some b → i < j
    → node_cmp a.key b.key ≡ Less
unfolding IsStrictlySortedBy
pair [] i j a b s ea eb lt = absurd (none-some a ea)
pair (x ∷ xs) zero zero a b s ea eb lt = absurd (omega (arith, lt))
pair (x ∷ xs) zero (suc j) a b s ea eb lt =
    subst (λ (n : Node). node_cmp n.key b.key ≡ Less) (same_Some x a ea) (all_at (λ k. node_cmp x.key k ≡ Less) xs j b s.0 eb)
pair (x ∷ xs) (suc i) zero a b s ea eb lt = absurd (omega (arith, lt))
pair (x ∷ xs) (suc i) (suc j) a b s ea eb lt = pair xs i j a b s.1 ea eb (omega (arith, lt))
