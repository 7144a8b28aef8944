-- A table of entries with distinct keys, read as a family.
use Rattle.std.proofs.Common.{◌≡◌, ℕ, suc, ◌+◌, Bool, true, false, cond, Some, None, Result, Ok, Err, List, [], ◌∷◌, length, slice_index_or, refl, sym, ap, ◌∙◌, subst, arith}
use Rattle.std.specs.List.{AllByRecursion, IsDistinct}
use Rattle.std.specs.Option.{is_some}
use Rattle.std.specs.Map.{lookup, keys_of}
use Rattle.std.specs.declared.cmp.Ordering.{Ordering}
use Rattle.std.specs.declared.cmp.Ordering.TheVariants.{Less, Equal, Greater}
use Rattle.std.specs.Ordering.{is_lt, ordering_reverse}
use Rattle.std.specs.List.Sorted.{IsSorted}
use Rattle.std.specs.Prelude.{T, ◌&&◌}
use Rattle.std.specs.FinMap.Entries.{is_sorted, below_all, same_entries}
use Rattle.node_keys.proofs.AllLaws.{keys_are_ordered}
use Rattle.std.specs.FinMap.{get, insert, from_entries, entries, get-entries, entries_sorted, len, same_map, get-insert, get-from_entries, len-insert, len-empty}
use Rattle.std.specs.FinMap.Entries.{find}
use Rattle.abs_state.specs.declared.state.AbsState.{AbsState}
use Rattle.node_keys.specs.declared.keys.NodeKey.{NodeKey}
use Rattle.node_keys.specs.Order.{node_cmp, same_node}
use Rattle.node_keys.specs.Total.{node_total, node_equal, node_equivalence}
use Rattle.abs_state.specs.Order.{state_join}
use Rattle.local_rules.specs.declared.local.Node.{Node}
use Rattle.round_table.specs.Families.{Family, joined_with, raised}
use Rattle.std.specs.Prelude.{OnOk, OnErr}
use Rattle.basics.specs.Booleans.{join_tests, less_if_so, so_if_less}
use Rattle.node_keys.specs.Keys.{offset_of}
use Rattle.round_table.specs.Sized.{AreStatesSized}
use Rattle.round_laws.proofs.AllLaws.{node_exact}
use Rattle.round_table.proofs.Families.{insert_sized}

find_lookup : (q : NodeKey) (es : List (NodeKey × AbsState)) → find node_cmp q es ≡ lookup (same_node q) es
find_lookup q [] = refl
find_lookup q (e ∷ es) = ap (λ b. cond b (Some e.1) (find node_cmp q es)) (sym (node_equal q e.0)) ∙ ap (cond (same_node q e.0) (Some e.1)) (find_lookup q es)

pub table_get : (es : List (NodeKey × AbsState)) (q : NodeKey) → get (from_entries {R = node_cmp} es) q ≡ lookup (same_node q) es
table_get es q = get-from_entries node_total es q ∙ find_lookup q es

absent_first : (k : NodeKey) (es : List (NodeKey × AbsState)) → AllByRecursion (λ y. same_node k y ≡ false) (keys_of es) → lookup (same_node k) es ≡ None
absent_first k [] h = refl
absent_first k (e ∷ es) h = ap (λ b. cond b (Some e.1) (lookup (same_node k) es)) h.0 ∙ absent_first k es h.1

pub table_len : (es : List (NodeKey × AbsState)) → IsDistinct same_node (keys_of es) → len (from_entries {R = node_cmp} es) ≡ length es
unfolding IsDistinct
table_len [] d = len-empty node_cmp AbsState
table_len (e ∷ es) d =
    let f = from_entries {R = node_cmp} es in
    let e1 : len (insert f e.0 e.1) ≡ cond (is_some (get f e.0)) (len f) (len f + 1) = len-insert node_total f e.0 e.1 in
    let e2 : get f e.0 ≡ None = table_get es e.0 ∙ absent_first e.0 es d.0 in
    let e3 : len (insert f e.0 e.1) ≡ len f + 1 = e1 ∙ ap (λ o. cond (is_some o) (len f) (len f + 1)) e2 in
    omega (arith, e3, table_len es d.1)

pub table_put : (es es' : List (NodeKey × AbsState)) (f : Family) (k : NodeKey) (v : AbsState) → from_entries {R = node_cmp} es ≡ f
    → ((q : NodeKey) → lookup (same_node q) es' ≡ cond (same_node k q) (Some v) (lookup (same_node q) es)) → from_entries {R = node_cmp} es' ≡ insert f k v
table_put es es' f k v is up =
    same_map node_total node_exact (from_entries es') (insert f k v)
    (λ q. table_get es' q ∙ up q ∙ ap (cond (same_node k q) (Some v)) (sym (table_get es q) ∙ ap (λ g. get g q) is)
    ∙ ap (λ b. cond b (Some v) (get f q)) (node_equivalence.0.symm k q ∙ node_equal q k) ∙ sym (get-insert node_total f k v q))

-- ---- one node more

-- the state joined into a present node
pub raised_there : (es es' : List (NodeKey × AbsState)) (f : Family) (n : Node) (s w : AbsState) → from_entries {R = node_cmp} es ≡ f → Some s ≡ lookup (same_node n.key) es
    → w ≡ state_join s n.state → ((q : NodeKey) → lookup (same_node q) es' ≡ cond (same_node n.key q) (Some w) (lookup (same_node q) es))
    → (get f n.key ≡ Some s) × ((from_entries {R = node_cmp} es' ≡ insert f n.key w) × (from_entries {R = node_cmp} es' ≡ raised f n))
raised_there es es' f n s w is found joined up =
    let here : get f n.key ≡ Some s = sym (ap (λ g. get g n.key) is) ∙ table_get es n.key ∙ sym found in
    let put = table_put es es' f n.key w is up in
    (here, (put, put ∙ ap (insert f n.key) (joined ∙ ap (λ o. joined_with o n.state) (sym here))))

pub raised_new : (es es' : List (NodeKey × AbsState)) (f : Family) (n : Node) → from_entries {R = node_cmp} es ≡ f → None ≡ lookup (same_node n.key) es
    → ((q : NodeKey) → lookup (same_node q) es' ≡ cond (same_node n.key q) (Some n.state) (lookup (same_node q) es))
    → (get f n.key ≡ None) × ((from_entries {R = node_cmp} es' ≡ insert f n.key n.state) × (from_entries {R = node_cmp} es' ≡ raised f n))
raised_new es es' f n is found up =
    let none : get f n.key ≡ None = sym (ap (λ g. get g n.key) is) ∙ table_get es n.key ∙ sym found in
    let put = table_put es es' f n.key n.state is up in
    (none, (put, put ∙ ap (insert f n.key) (ap (λ o. joined_with o n.state) (sym none))))

-- Each state is still sized, whether the node was inserted or memory ran out. The contract of `insert` says more than is needed.
pub inserted_sized : {V E : Type 0} (N : Type 0) (r : Result V E) (es es' : List (NodeKey × AbsState)) (f : Family) (n : Node) → from_entries {R = node_cmp} es ≡ f → AreStatesSized f
    → length n.state.slots ≡ offset_of n.key.sp → None ≡ lookup (same_node n.key) es
    → OnOk r N → OnErr r (es' ≡ es) → (N → (q : NodeKey) → lookup (same_node q) es' ≡ cond (same_node n.key q) (Some n.state) (lookup (same_node q) es))
    → AreStatesSized (from_entries {R = node_cmp} es')
inserted_sized N (Ok v) es es' f n is sized count found up same says =
    subst AreStatesSized (sym (raised_new es es' f n is found (says up)).1.0) (insert_sized f n.key n.state sized count)
inserted_sized N (Err e) es es' f n is sized count found up same says = subst AreStatesSized (sym (ap (from_entries {R = node_cmp}) same ∙ is)) sized

-- ---- order

-- entries with the same look-ups form the same family
pub table_same : (es es' : List (NodeKey × AbsState)) → ((q : NodeKey) → lookup (same_node q) es' ≡ lookup (same_node q) es) → from_entries {R = node_cmp} es' ≡ from_entries es
table_same es es' same = same_map node_total node_exact (from_entries es') (from_entries es) (λ q. table_get es' q ∙ same q ∙ sym (table_get es q))

first : (a b : Bool) → T (a && b) → T a
first true b p = tt
first false b p = p

second : (a b : Bool) → T (a && b) → T b
second true b p = p
second false b p = absurd p

below_through : (x y : NodeKey) (es : List (NodeKey × AbsState)) → node_cmp x y ≡ Less → T (below_all node_cmp y es) → T (below_all node_cmp x es)
below_through x y [] less h = tt
below_through x y (e ∷ es) less h =
    join_tests (is_lt (node_cmp x e.0)) (below_all node_cmp x es)
    (so_if_less (node_cmp x e.0) (node_total.trans x y e.0 less (less_if_so (node_cmp y e.0) (first (is_lt (node_cmp y e.0)) (below_all node_cmp y es) h))))
    (below_through x y es less (second (is_lt (node_cmp y e.0)) (below_all node_cmp y es) h))

-- different neighbours, the second of which is not less
neighbours : (x y : NodeKey) → is_lt (node_cmp y x) ≡ false → same_node x y ≡ false → node_cmp x y ≡ Less
neighbours x y not_less other = by (node_cmp x y) refl
  where
    by : (r : Ordering) → node_cmp x y ≡ r → r ≡ Less
    by Less e = refl
    by Equal e = let same = (keys_are_ordered.same_nodes x y).1 ((keys_are_ordered.equal_nodes x y).0 e) in absurd (cc)
    by Greater e = let less : node_cmp y x ≡ Less = node_total.antisymm y x ∙ ap ordering_reverse e in absurd (let never = sym (ap is_lt less) ∙ not_less in cc)

later : (e f : NodeKey × AbsState) (es : List (NodeKey × AbsState)) (k : ℕ) (d : NodeKey)
    → is_lt (node_cmp (slice_index_or (keys_of (e ∷ f ∷ es)) (suc k + 1) d) (slice_index_or (keys_of (e ∷ f ∷ es)) (suc k) d)) ≡ false
    → is_lt (node_cmp (slice_index_or (keys_of (f ∷ es)) (k + 1) d) (slice_index_or (keys_of (f ∷ es)) k d)) ≡ false
later e f es k d h =
    let is : suc k + 1 ≡ suc (k + 1) = omega arith in
    subst (λ (n : ℕ). is_lt (node_cmp (slice_index_or (keys_of (e ∷ f ∷ es)) n d) (slice_index_or (keys_of (f ∷ es)) k d)) ≡ false) is h

ascend : (es : List (NodeKey × AbsState)) → IsSorted node_cmp (keys_of es) → IsDistinct same_node (keys_of es) → T (is_sorted node_cmp es)
unfolding IsDistinct
ascend [] sorted distinct = tt
ascend (e ∷ []) sorted distinct = tt
ascend (e ∷ f ∷ es) sorted distinct =
    let less = neighbours e.0 f.0 (sorted 0 e.0 (omega arith) (omega arith)) distinct.0.0 in
    let rest = ascend (f ∷ es) (λ k d low high. later e f es k d (sorted (suc k) d (omega arith) (omega arith))) distinct.1 in
    join_tests (below_all node_cmp e.0 (f ∷ es)) (is_sorted node_cmp (f ∷ es))
    (join_tests (is_lt (node_cmp e.0 f.0)) (below_all node_cmp e.0 es) (so_if_less (node_cmp e.0 f.0) less) (below_through e.0 f.0 es less (first (below_all node_cmp f.0 es) (is_sorted node_cmp es) rest)))
    rest

-- sorted entries are those of the family
pub sorted_entries : (es : List (NodeKey × AbsState)) (f : Family) → from_entries {R = node_cmp} es ≡ f → IsSorted node_cmp (keys_of es) → IsDistinct same_node (keys_of es)
    → es ≡ entries f
sorted_entries es f is sorted distinct =
    let m = from_entries {R = node_cmp} es in
    let all : entries m ≡ es = same_entries node_cmp node_total node_exact (entries m) es (entries_sorted m) (ascend es sorted distinct)
    (λ q. sym (get-entries m q) ∙ get-from_entries node_total es q) in
    sym all ∙ ap entries is
