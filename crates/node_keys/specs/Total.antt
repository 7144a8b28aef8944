-- Laws of the order of keys.
use Rattle.std.proofs.Common.{◌≡◌, refl, sym, ℕ, List, [], ◌∷◌, Less, Equal, Greater}
use Rattle.std.specs.Cmp.{IsTotalOrder, IsPartialOrder, IsEquivalence, IsPartialEquivalence, partial_equiv_from_equiv, partial_order_from_total}
use Rattle.std.specs.Ordering.{nat_cmp, ordering_then, as_partial_cmp, eq_by_cmp}
use Rattle.std.specs.declared.cmp.Ordering.{Ordering}
use Rattle.std.proofs.lemmas.Cmp.{ranked, on_total, nat_list_cmp_total, eq_by_cmp_equiv}
use Rattle.node_keys.specs.declared.keys.InstKey.{InstKey}
use Rattle.node_keys.specs.declared.keys.NodeKey.{NodeKey}
use Rattle.node_keys.specs.Keys.{inst_numbers, node_numbers}
use Rattle.node_keys.specs.Order.{numbers_cmp, inst_cmp, node_cmp, same_inst, same_node}

pub inst_total : IsTotalOrder inst_cmp
unfolding inst_cmp
inst_total = on_total inst_numbers nat_list_cmp_total

pub node_total : IsTotalOrder node_cmp
unfolding node_cmp
node_total = on_total node_numbers nat_list_cmp_total

pub inst_equal : (a b : InstKey) → same_inst a b ≡ eq_by_cmp inst_cmp a b
unfolding same_inst
inst_equal a b = refl

pub node_equal : (a b : NodeKey) → same_node a b ≡ eq_by_cmp node_cmp a b
unfolding same_node
node_equal a b = refl

pub inst_partial : IsPartialOrder same_inst (as_partial_cmp inst_cmp)
unfolding same_inst
inst_partial = partial_order_from_total inst_total

pub node_partial : IsPartialOrder same_node (as_partial_cmp node_cmp)
unfolding same_node
node_partial = partial_order_from_total node_total

pub inst_equivalence : IsPartialEquivalence same_inst × IsEquivalence same_inst
unfolding same_inst
inst_equivalence = (partial_equiv_from_equiv (eq_by_cmp_equiv inst_total), eq_by_cmp_equiv inst_total)

pub node_equivalence : IsPartialEquivalence same_node × IsEquivalence same_node
unfolding same_node
node_equivalence = (partial_equiv_from_equiv (eq_by_cmp_equiv node_total), eq_by_cmp_equiv node_total)

pub both_equal : (o r : Ordering) → ordering_then o r ≡ Equal → (o ≡ Equal) × (r ≡ Equal)
both_equal Less r e = absurd (cc)
both_equal Equal r e = (refl, e)
both_equal Greater r e = absurd (cc)

-- lists that compare equal are equal
pub numbers_equal : (xs ys : List ℕ) → numbers_cmp xs ys ≡ Equal → xs ≡ ys
numbers_equal [] [] e = refl
numbers_equal [] (y ∷ ys) e = absurd (cc)
numbers_equal (x ∷ xs) [] e = absurd (cc)
numbers_equal (x ∷ xs) (y ∷ ys) e =
    let both = both_equal (nat_cmp x y) (numbers_cmp xs ys) e in
    let head : x ≡ y = ranked x y Equal (sym both.0) in
    let tail = numbers_equal xs ys both.1 in
    λ i. head i ∷ tail i
