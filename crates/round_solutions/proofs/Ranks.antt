-- Least ranks are below the number of instances, which is at most that of nodes.
use Rattle.std.proofs.Common.{◌≡◌, refl, sym, subst, ℕ, zero, suc, ◌+◌, ◌-◌, ◌<◌, ◌≤◌, List, [], ◌∷◌, length, Some, slice_get, slice_index, arith}
use Rattle.std.proofs.lemmas.Option.{slice_get_within}
use Rattle.std.specs.declared.cmp.Ordering.TheVariants.{Less}
use Rattle.node_keys.specs.declared.keys.InstKey.{InstKey}
use Rattle.node_keys.specs.Order.{inst_cmp}
use Rattle.node_keys.proofs.AllLaws.{nodes_go_by_instance}
use Rattle.local_rules.specs.declared.local.Node.{Node}
use Rattle.instance_graph.specs.declared.graph.GraphInst.{GraphInst}
use Rattle.instance_graph.specs.Graph.{IsGraph, AreGraphRanks}
use Rattle.instance_graph.specs.Least.{IsLeast}
use Rattle.family_graph.specs.Graphs.{HasInst}
use Rattle.std.specs.Prelude.{Contains}
use Rattle.std.specs.List.Sorted.{IsStrictlySortedBy}
use Rattle.basics.specs.Items.{contained_at, get_contained}
use Rattle.basics.specs.Lists.{get_inside}
use Rattle.round_solutions.proofs.Order.{NodesAscend, before, number_before}

-- ---- ranks

-- how many items are below this number
abbrev below : List ℕ → ℕ → ℕ
below [] v = 0
below (x ∷ xs) v = (1 - (1 - (v - x))) + below xs v

grows : (xs : List ℕ) (v w : ℕ) → v ≤ w → below xs v ≤ below xs w
grows [] v w le = omega arith
grows (x ∷ xs) v w le = let rest = grows xs v w le in omega (arith, le, rest)

rises : (xs : List ℕ) (i v w : ℕ) → i < length xs → v ≤ slice_index xs i → slice_index xs i < w → below xs v < below xs w
rises [] i v w lt le more = absurd (omega (arith, lt))
rises (x ∷ xs) zero v w lt le more = let rest = grows xs v w (omega (arith, le, more)) in omega (arith, le, more, rest)
rises (x ∷ xs) (suc i) v w lt le more = let rest = rises xs i v w (omega (arith, lt)) le more in omega (arith, le, more, rest)

bounded : (xs : List ℕ) (v : ℕ) → below xs v ≤ length xs
bounded [] v = omega arith
bounded (x ∷ xs) v = let rest = bounded xs v in omega (arith, rest)

not_all : (xs : List ℕ) (i v : ℕ) → i < length xs → v ≤ slice_index xs i → below xs v < length xs
not_all [] i v lt le = absurd (omega (arith, lt))
not_all (x ∷ xs) zero v lt le = let rest = bounded xs v in omega (arith, le, rest)
not_all (x ∷ xs) (suc i) v lt le = let rest = not_all xs i v (omega (arith, lt)) le in omega (arith, rest)

module _ (back : ℕ) (gs : List GraphInst) (is : IsGraph gs) (ranks needs : List ℕ) (least : IsLeast back gs ranks needs) where
  -- the number of instances with lower ranks is a rank too
  counted : AreGraphRanks gs (λ i. below ranks (slice_index ranks i))
  counted i e h =
      rises ranks e.into (slice_index ranks e.into) (slice_index ranks i) (omega (arith, is.within i e h, least.ranks_length)) (omega arith) (least.are_ranks i e h)

  pub few_ranks : (i : ℕ) → i < length gs → slice_index ranks i < length gs
  few_ranks i lt =
      let le = least.least_ranks (λ j. below ranks (slice_index ranks j)) counted i lt in
      let less = not_all ranks i (slice_index ranks i) (omega (arith, lt, least.ranks_length)) (omega arith) in
      omega (arith, le, less, least.ranks_length)

-- ---- instances

module _ (nodes : List Node) (ascend : NodesAscend nodes) (insts : List InstKey) (sorted : IsStrictlySortedBy inst_cmp insts)
    (used : (inst : InstKey) → Contains insts inst → HasInst nodes inst) where
  -- a node of the instance has at least the instance's number
  no_lower : (i : ℕ) (inst : InstKey) → slice_get insts i ≡ Some inst → (p : ℕ) (n : Node) → slice_get nodes p ≡ Some n → n.key.inst ≡ inst → i ≤ p
  no_lower zero inst e p n is of = omega arith
  no_lower (suc i) inst e p n is of =
      let x = get_inside insts i (let lt = slice_get_within insts (suc i) inst e in omega (arith, lt)) in
      let m = used x.0 (contained_at insts i x.0 x.1) in
      let le = no_lower i x.0 x.1 m.1.0 m.0 (get_contained nodes m.0 m.1) m.2 in
      let less = before inst_cmp insts i (suc i) x.0 inst sorted x.1 e (omega arith) in
      let first = nodes_go_by_instance.first m.0.key n.key (subst (λ (k : InstKey). inst_cmp k n.key.inst ≡ Less) (sym m.2) (subst (λ (k : InstKey). inst_cmp x.0 k ≡ Less) (sym of) less)) in
      let lt = number_before nodes m.1.0 p m.0 n ascend (get_contained nodes m.0 m.1) is first in
      omega (arith, le, lt)

  pub few_insts : length insts ≤ length nodes
  few_insts = by (length insts) refl
    where
      by : (count : ℕ) → length insts ≡ count → length insts ≤ length nodes
      by zero e = omega (arith, e)
      by (suc i) e =
          let x = get_inside insts i (omega (arith, e)) in
          let m = used x.0 (contained_at insts i x.0 x.1) in
          let le = no_lower i x.0 x.1 m.1.0 m.0 (get_contained nodes m.0 m.1) m.2 in
          let lt = m.1.1 in
          omega (arith, e, le, lt)
