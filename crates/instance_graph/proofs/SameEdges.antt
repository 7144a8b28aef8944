-- Edges with equal numbers and equal depth are equal.
use Rattle.std.proofs.Common.{◌≡◌, ◌≢◌, ◌∙◌, sym, ap, refl, ℕ, ◌+◌, List, [], ◌∷◌, ◌++◌, arith, Less, Equal, Greater, slice_get, slice_index}
use Rattle.std.specs.Cmp.Lexicographic.{slice_cmp}
use Rattle.std.specs.Ordering.{nat_cmp, ordering_reverse}
use Rattle.std.specs.declared.cmp.Ordering.{Ordering}
use Rattle.std.proofs.lemmas.Cmp.{ranked}
use Rattle.basics.specs.Lists.{number_at_same, same_parts}
use Rattle.node_keys.proofs.AllLaws.{bool_same, both_equal}
use Rattle.node_keys.specs.declared.keys.EdgeKind.{EdgeKind}
use Rattle.node_keys.specs.declared.keys.EdgeKind.TheVariants.{Local, Call, Interrupt, Return}
use Rattle.instance_graph.specs.declared.graph.Entered.{Entered}
use Rattle.instance_graph.specs.declared.graph.GraphInst.{GraphInst}
use Rattle.instance_graph.specs.declared.graph.GraphWay.{GraphWay}
use Rattle.instance_graph.specs.declared.graph.GraphWay.TheVariants.{Enters, Recur}
use Rattle.instance_graph.specs.Chain.{kind_numbers, way_numbers, entry_of, turn_of, edge_cmp, IsEdgeUpTo}
use Rattle.instance_graph.proofs.Order.{way_length, edge_total}

kind_same : (a b : EdgeKind) → kind_numbers a ≡ kind_numbers b → a ≡ b
kind_same Local Local e = refl
kind_same Local Call e = absurd (let h = number_at_same 0 e in omega arith)
kind_same Local (Interrupt w d) e = absurd (let h = number_at_same 0 e in omega arith)
kind_same Local Return e = absurd (let h = number_at_same 0 e in omega arith)
kind_same Call Local e = absurd (let h = number_at_same 0 e in omega arith)
kind_same Call Call e = refl
kind_same Call (Interrupt w d) e = absurd (let h = number_at_same 0 e in omega arith)
kind_same Call Return e = absurd (let h = number_at_same 0 e in omega arith)
kind_same (Interrupt v c) Local e = absurd (let h = number_at_same 0 e in omega arith)
kind_same (Interrupt v c) Call e = absurd (let h = number_at_same 0 e in omega arith)
kind_same (Interrupt v c) (Interrupt w d) e = let vs = number_at_same 1 e in let cs = bool_same c d (number_at_same 2 e) in λ i. Interrupt (vs i) (cs i)
kind_same (Interrupt v c) Return e = absurd (let h = number_at_same 0 e in omega arith)
kind_same Return Local e = absurd (let h = number_at_same 0 e in omega arith)
kind_same Return Call e = absurd (let h = number_at_same 0 e in omega arith)
kind_same Return (Interrupt w d) e = absurd (let h = number_at_same 0 e in omega arith)
kind_same Return Return e = refl

way_same : (a b : GraphWay) → way_numbers a ≡ way_numbers b → a ≡ b
way_same (Enters a) (Enters b) e = ap Enters (kind_same a b e)
way_same (Enters Local) Recur e = absurd (let h = number_at_same 0 e in omega arith)
way_same (Enters Call) Recur e = absurd (let h = number_at_same 0 e in omega arith)
way_same (Enters (Interrupt v c)) Recur e = absurd (let h = number_at_same 0 e in omega arith)
way_same (Enters Return) Recur e = absurd (let h = number_at_same 0 e in omega arith)
way_same Recur (Enters Local) e = absurd (let h = number_at_same 0 e in omega arith)
way_same Recur (Enters Call) e = absurd (let h = number_at_same 0 e in omega arith)
way_same Recur (Enters (Interrupt v c)) e = absurd (let h = number_at_same 0 e in omega arith)
way_same Recur (Enters Return) e = absurd (let h = number_at_same 0 e in omega arith)
way_same Recur Recur e = refl

numbers_equal : (xs ys : List ℕ) → slice_cmp nat_cmp xs ys ≡ Equal → xs ≡ ys
numbers_equal [] [] e = refl
numbers_equal [] (y ∷ ys) e = absurd (cc)
numbers_equal (x ∷ xs) [] e = absurd (cc)
numbers_equal (x ∷ xs) (y ∷ ys) e =
    let both = both_equal (nat_cmp x y) (slice_cmp nat_cmp xs ys) e in
    let head : x ≡ y = ranked x y Equal (sym both.0) in
    let tail = numbers_equal xs ys both.1 in
    λ i. head i ∷ tail i

neither : (o : Ordering) → o ≢ Less → ordering_reverse o ≢ Less → o ≡ Equal
neither Less a b = absurd (a refl)
neither Equal a b = refl
neither Greater a b = absurd (b refl)

-- two equally deep edges, neither before the other
pub edges_same : (back : ℕ) (gs : List GraphInst) (needs : List ℕ) (a b : Entered) (n : ℕ) → IsEdgeUpTo gs a b → IsEdgeUpTo gs b a → a.offset + back + slice_index needs a.into ≡ n → b.offset + back + slice_index needs b.into ≡ n → a ≡ b
unfolding edge_cmp turn_of
edges_same back gs needs a b n up down deep_a deep_b =
    let equal : edge_cmp gs b a ≡ Equal = neither (edge_cmp gs b a) up (λ e. down ((edge_total gs).antisymm a b ∙ e)) in
    let same = numbers_equal (turn_of gs b) (turn_of gs a) equal in
    let tails : way_numbers b.way ++ entry_of (slice_get gs b.into) ∷ b.into ∷ [] ≡ way_numbers a.way ++ entry_of (slice_get gs a.into) ∷ a.into ∷ [] = cc in
    let both = same_parts (way_numbers b.way) (way_numbers a.way) (entry_of (slice_get gs b.into) ∷ b.into ∷ []) (entry_of (slice_get gs a.into) ∷ a.into ∷ []) (way_length b.way ∙ sym (way_length a.way)) tails in
    let nodes : b.node ≡ a.node = number_at_same 0 same in
    let ways = way_same b.way a.way both.0 in
    let into : b.into ≡ a.into = number_at_same 1 both.1 in
    let offsets : b.offset ≡ a.offset = omega (arith, deep_a, deep_b, ap (slice_index needs) into) in
    sym (λ j. record { node = nodes j; offset = offsets j; way = ways j; into = into j })
