-- Ascending lists; the root comes first.
use Rattle.std.proofs.Common.{◌≡◌, refl, sym, ap, ◌∙◌, subst, ℕ, zero, suc, ◌<◌, inl, inr, Bool, true, false, cond, ◌==◌, nat_lt, List, [], ◌∷◌, length, length-append, map, Option, Some, None, slice_get, ◌++◌, arith}
use Rattle.std.proofs.lemmas.Bool.{cases_order}
use Rattle.std.proofs.lemmas.Bool.Decides.{nat_tests}
use Rattle.std.proofs.lemmas.Option.{none-some, same_Some}
use Rattle.std.specs.Prelude.{T}
use Rattle.std.specs.List.{AllByRecursion}
use Rattle.std.specs.List.Sorted.{IsStrictlySortedBy}
use Rattle.std.specs.Int.{from_bool}
use Rattle.std.specs.Ordering.{nat_cmp, is_lt, ordering_then}
use Rattle.std.specs.Cmp.Lexicographic.{slice_cmp}
use Rattle.std.specs.declared.cmp.Ordering.{Ordering}
use Rattle.std.specs.declared.cmp.Ordering.TheVariants.{Less, Equal, Greater}
use Rattle.std.specs.FinMap.{entries, entries_sorted}
use Rattle.std.specs.FinMap.Entries.{is_sorted, below_all}
use Rattle.basics.specs.Items.{all_at}
use Rattle.basics.specs.Booleans.{less_if_so, split_tests}
use Rattle.edge_laws.proofs.AllLaws.{not_below_itself}
use Rattle.family_graph.proofs.Alike.{not_less}
use Rattle.abs_state.specs.declared.state.AbsState.{AbsState}
use Rattle.node_keys.specs.declared.keys.InstKey.{InstKey}
use Rattle.node_keys.specs.declared.keys.NodeKey.{NodeKey}
use Rattle.node_keys.specs.Keys.{root_inst, entry_key, form_numbers, pick_numbers, inst_numbers, node_numbers}
use Rattle.node_keys.specs.Order.{inst_cmp, node_cmp}
use Rattle.node_keys.proofs.AllLaws.{keys_are_ordered, form_length, inst_length}
use Rattle.local_rules.specs.declared.local.Node.{Node}
use Rattle.edge_rules.specs.Views.{key_of}
use Rattle.round_rules.specs.Families.{Family, node_of, nodes_of}

-- ---- ascending lists

pub before : {K : Type 0} (R : K → K → Ordering) (xs : List K) (i j : ℕ) (a b : K) → IsStrictlySortedBy R xs → slice_get xs i ≡ Some a → slice_get xs j ≡ Some b → i < j
    → R a b ≡ Less
unfolding IsStrictlySortedBy
before R [] i j a b s ea eb lt = absurd (none-some a ea)
before R (x ∷ xs) zero zero a b s ea eb lt = absurd (omega (arith, lt))
before R (x ∷ xs) zero (suc j) a b s ea eb lt = subst (λ y. R y b ≡ Less) (same_Some x a ea) (all_at (λ y. R x y ≡ Less) xs j b s.0 eb)
before R (x ∷ xs) (suc i) zero a b s ea eb lt = absurd (omega (arith, lt))
before R (x ∷ xs) (suc i) (suc j) a b s ea eb lt = before R xs i j a b s.1 ea eb (omega (arith, lt))

pub inst_once : (xs : List InstKey) (i j : ℕ) (k : InstKey) → IsStrictlySortedBy inst_cmp xs → slice_get xs i ≡ Some k → slice_get xs j ≡ Some k → i ≡ j
inst_once xs i j k s a b =
    elim (cases_order i j) [
      | inl same ↦ same
      | inr (inl lt) ↦ absurd (not_less k (before inst_cmp xs i j k k s a b lt))
      | inr (inr gt) ↦ absurd (not_less k (before inst_cmp xs j i k k s b a gt))
    ]

-- ---- nodes in the order of their keys

abbrev pub NodesAscend : List Node → Type 0
NodesAscend nodes = IsStrictlySortedBy node_cmp (map key_of nodes)

pub key_at : (nodes : List Node) (i : ℕ) (n : Node) → slice_get nodes i ≡ Some n → slice_get (map key_of nodes) i ≡ Some n.key
key_at [] i n e = absurd (none-some n e)
key_at (x ∷ xs) zero n e = ap Some (ap key_of (same_Some x n e))
key_at (x ∷ xs) (suc i) n e = key_at xs i n e

pub node_before : (nodes : List Node) (i j : ℕ) (a b : Node) → NodesAscend nodes → slice_get nodes i ≡ Some a → slice_get nodes j ≡ Some b → i < j → node_cmp a.key b.key ≡ Less
node_before nodes i j a b s ea eb lt = before node_cmp (map key_of nodes) i j a.key b.key s (key_at nodes i a ea) (key_at nodes j b eb) lt

pub number_before : (nodes : List Node) (i j : ℕ) (a b : Node) → NodesAscend nodes → slice_get nodes i ≡ Some a → slice_get nodes j ≡ Some b → node_cmp a.key b.key ≡ Less → i < j
number_before nodes i j a b s ea eb less =
    elim (cases_order i j) [
      | inl same ↦ absurd (not_below_itself a.key (subst (λ (n : Node). node_cmp a.key n.key ≡ Less) (same_Some b a (sym eb ∙ ap (slice_get nodes) (sym same) ∙ ea)) less))
      | inr (inl lt) ↦ lt
      | inr (inr gt) ↦ absurd (not_below_itself a.key (keys_are_ordered.nodes.trans a.key b.key a.key less (node_before nodes j i b a s eb ea gt)))
    ]

pub node_once : (nodes : List Node) (i j : ℕ) (n : Node) → NodesAscend nodes → slice_get nodes i ≡ Some n → slice_get nodes j ≡ Some n → i ≡ j
node_once nodes i j n s a b =
    elim (cases_order i j) [
      | inl same ↦ same
      | inr (inl lt) ↦ absurd (not_below_itself n.key (node_before nodes i j n n s a b lt))
      | inr (inr gt) ↦ absurd (not_below_itself n.key (node_before nodes j i n n s b a gt))
    ]

-- ---- the nodes of a family

above_of : (k : NodeKey) (es : List (NodeKey × AbsState)) → T (below_all node_cmp k es) → AllByRecursion (λ y. node_cmp k y ≡ Less) (map key_of (map node_of es))
above_of k [] h = tt
above_of k (e ∷ es) h = let p = split_tests (is_lt (node_cmp k e.0)) _ h in (less_if_so (node_cmp k e.0) p.0, above_of k es p.1)

sorted_of : (es : List (NodeKey × AbsState)) → T (is_sorted node_cmp es) → NodesAscend (map node_of es)
unfolding IsStrictlySortedBy
sorted_of [] h = tt
sorted_of (e ∷ es) h = let p = split_tests (below_all node_cmp e.0 es) _ h in (above_of e.0 es p.0, sorted_of es p.1)

pub ascending : (f : Family) → NodesAscend (nodes_of f)
ascending f = sorted_of (entries f) (entries_sorted f)

-- ---- the root

abbrev zeros : ℕ → List ℕ
zeros zero = []
zeros (suc n) = 0 ∷ zeros n

-- a list of numbers before zeros is shorter
least : (xs : List ℕ) (n : ℕ) → slice_cmp nat_cmp xs (zeros n) ≡ Less → length xs < n
least [] zero e = cc
least [] (suc n) e = omega arith
least (x ∷ xs) zero e = cc
least (x ∷ xs) (suc n) e = by (least xs n) (nat_lt x 0) (x == 0) refl refl e
  where
    by : (slice_cmp nat_cmp xs (zeros n) ≡ Less → length xs < n) → (a b : Bool) → nat_lt x 0 ≡ a → (x == 0) ≡ b → ordering_then (cond a Less (cond b Equal Greater)) (slice_cmp nat_cmp xs (zeros n)) ≡ Less → length (x ∷ xs) < suc n
    by rest true b t u h = absurd (grind (arith, nat_tests))
    by rest false true t u h = omega (arith, rest h)
    by rest false false t u h = cc

pick_length : (p : Option ℕ) → length (pick_numbers p) ≡ 2
pick_length None = refl
pick_length (Some byte) = refl

node_length : (k : NodeKey) → length (node_numbers k) ≡ 15
unfolding node_numbers
node_length k =
    omega (
      arith,
      length-append (inst_numbers k.inst) (k.pc ∷ k.masks ∷ from_bool k.i ∷ from_bool k.delay ∷ form_numbers k.sp ++ pick_numbers k.pick),
      length-append (form_numbers k.sp) (pick_numbers k.pick),
      inst_length k.inst,
      form_length k.sp,
      pick_length k.pick,
    )

pub root_inst_first : (k : InstKey) → inst_cmp k root_inst ≡ Less → ⊥
unfolding inst_cmp inst_numbers
root_inst_first k e = let lt = least (inst_numbers k) 5 e in omega (arith, lt, inst_length k)

pub root_node_first : (k : NodeKey) → node_cmp k (entry_key root_inst) ≡ Less → ⊥
unfolding node_cmp node_numbers inst_numbers
root_node_first k e = let lt = least (node_numbers k) 15 e in omega (arith, lt, node_length k)
