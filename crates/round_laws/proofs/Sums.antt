-- Sums over the keys of a family are monotone.
use Rattle.std.proofs.Common.{◌≡◌, refl, sym, ap, ◌∙◌, ℕ, ◌+◌, ◌≤◌, Bool, true, false, cond, List, [], ◌∷◌, length, map, Some, arith}
use Rattle.std.specs.Prelude.{T}
use Rattle.std.specs.Ordering.{eq_by_cmp}
use Rattle.std.specs.FinMap.{get, entries, entries_sorted, get-entries, len, len-entries}
use Rattle.std.specs.FinMap.Entries.{find, is_sorted}
use Rattle.abs_state.specs.declared.state.AbsState.{AbsState}
use Rattle.node_keys.specs.declared.keys.NodeKey.{NodeKey}
use Rattle.node_keys.specs.Keys.{offset_of}
use Rattle.node_keys.specs.Order.{node_cmp}
use Rattle.node_keys.specs.Total.{node_equal, node_equivalence}
use Rattle.certificate.specs.Claims.{cells_of}
use Rattle.round_rules.specs.Families.{Family, Below, cells}
use Rattle.round_laws.proofs.Nodes.{tied, key_is, apart, sorted_parts}

abbrev IsThere : List (NodeKey × AbsState) → NodeKey → Type 0
IsThere es q = (s : AbsState) × (find node_cmp q es ≡ Some s)

turned : (k q : NodeKey) → eq_by_cmp node_cmp k q ≡ eq_by_cmp node_cmp q k
turned k q = sym (node_equal k q) ∙ node_equivalence.0.symm k q ∙ node_equal q k

module _ (c : NodeKey → ℕ) where
  sum_keys : List (NodeKey × AbsState) → ℕ
  sum_keys [] = 0
  sum_keys (e ∷ es) = c e.0 + sum_keys es

  without : NodeKey → List (NodeKey × AbsState) → List (NodeKey × AbsState)
  without x [] = []
  without x (e ∷ es) = cond (eq_by_cmp node_cmp x e.0) (without x es) (e ∷ without x es)

  no_more : (x : NodeKey) (es : List (NodeKey × AbsState)) → sum_keys (without x es) ≤ sum_keys es
  unfolding sum_keys without
  no_more x [] = omega arith
  no_more x (e ∷ es) = by (no_more x es) (eq_by_cmp node_cmp x e.0)
    where
      by : sum_keys (without x es) ≤ sum_keys es → (b : Bool) → sum_keys (cond b (without x es) (e ∷ without x es)) ≤ c e.0 + sum_keys es
      by rest true = omega (arith, rest)
      by rest false = omega (arith, rest)

  one_out : (x : NodeKey) (es : List (NodeKey × AbsState)) → IsThere es x → c x + sum_keys (without x es) ≤ sum_keys es
  unfolding sum_keys without
  one_out x [] h = absurd (let e = h.1 in cc)
  one_out x (e ∷ es) h = by (one_out x es) (no_more x es) (eq_by_cmp node_cmp x e.0) refl h.1
    where
      by : (IsThere es x → c x + sum_keys (without x es) ≤ sum_keys es) → sum_keys (without x es) ≤ sum_keys es → (b : Bool) → eq_by_cmp node_cmp x e.0 ≡ b
          → cond b (Some e.1) (find node_cmp x es) ≡ Some h.0 → c x + sum_keys (cond b (without x es) (e ∷ without x es)) ≤ c e.0 + sum_keys es
      by rest less true t is = omega (arith, less, ap c (key_is x e.0 t))
      by rest less false t is = omega (arith, rest (h.0, is))

  found_without : (x q : NodeKey) (es : List (NodeKey × AbsState)) → eq_by_cmp node_cmp q x ≡ false → find node_cmp q (without x es) ≡ find node_cmp q es
  unfolding without
  found_without x q [] ne = refl
  found_without x q (e ∷ es) ne = by (found_without x q es ne) (eq_by_cmp node_cmp x e.0) refl
    where
      by : find node_cmp q (without x es) ≡ find node_cmp q es → (b : Bool) → eq_by_cmp node_cmp x e.0 ≡ b
          → find node_cmp q (cond b (without x es) (e ∷ without x es)) ≡ cond (eq_by_cmp node_cmp q e.0) (Some e.1) (find node_cmp q es)
      by rest true t =
          let other : eq_by_cmp node_cmp q e.0 ≡ false = ap (eq_by_cmp node_cmp q) (sym (key_is x e.0 t)) ∙ ne in
          rest ∙ ap (λ b. cond b (Some e.1) (find node_cmp q es)) (sym other)
      by rest false t = ap (cond (eq_by_cmp node_cmp q e.0) (Some e.1)) rest

  keys_le : (es fs : List (NodeKey × AbsState)) → T (is_sorted node_cmp es) → ((q : NodeKey) → IsThere es q → IsThere fs q) → sum_keys es ≤ sum_keys fs
  unfolding sum_keys
  keys_le [] fs sorted there = omega arith
  keys_le (e ∷ es) fs sorted there =
      let p = sorted_parts e es sorted in
      let first : find node_cmp e.0 (e ∷ es) ≡ Some e.1 = ap (λ b. cond b (Some e.1) (find node_cmp e.0 es)) (tied e.0) in
      let out = one_out e.0 fs (there e.0 (e.1, first)) in
      let rest = keys_le es (without e.0 fs) p.1 (λ q h.
      let ne = apart e.0 es q h.0 p.0 h.1 in
      let later : find node_cmp q (e ∷ es) ≡ Some h.0 = ap (λ b. cond b (Some e.1) (find node_cmp q es)) ne ∙ h.1 in
      let t = there q (h.0, later) in
      (t.0, found_without e.0 q fs ne ∙ t.1)) in
      omega (arith, out, rest)

  below_le : (f g : Family) → Below f g → sum_keys (entries f) ≤ sum_keys (entries g)
  below_le f g below =
      keys_le (entries f) (entries g) (entries_sorted f)
      (λ q h. let l = below (record { key = q; state = h.0 }) (get-entries f q ∙ h.1) in (l.at, sym (get-entries g q) ∙ l.is))

count_is : (es : List (NodeKey × AbsState)) → sum_keys (λ k. 1) es ≡ length es
unfolding sum_keys
count_is [] = refl
count_is (e ∷ es) = omega (arith, count_is es)

cells_are : (es : List (NodeKey × AbsState)) → sum_keys (λ k. 1 + offset_of k.sp) es ≡ cells_of (map (λ (x : NodeKey × AbsState). x.0) es)
unfolding sum_keys cells_of
cells_are [] = refl
cells_are (e ∷ es) = omega (arith, cells_are es)

pub below_few : (f g : Family) → Below f g → len f ≤ len g
below_few f g below = omega (arith, below_le (λ k. 1) f g below, count_is (entries f), count_is (entries g), len-entries f, len-entries g)

pub below_cells : (f g : Family) → Below f g → cells f ≤ cells g
below_cells f g below = omega (arith, below_le (λ k. 1 + offset_of k.sp) f g below, cells_are (entries f), cells_are (entries g))

-- a family whose keys another has has at most as many cells
pub same_cells : (f g : Family) → ((q : NodeKey) (s : AbsState) → get f q ≡ Some s → (t : AbsState) × (get g q ≡ Some t)) → cells f ≤ cells g
same_cells f g has =
    let le = keys_le (λ k. 1 + offset_of k.sp) (entries f) (entries g) (entries_sorted f)
    (λ q h. let t = has q h.0 (get-entries f q ∙ h.1) in (t.0, sym (get-entries g q) ∙ t.1)) in
    omega (arith, le, cells_are (entries f), cells_are (entries g))
