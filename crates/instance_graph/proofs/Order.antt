-- The order of edges.
use Rattle.std.proofs.Common.{◌≡◌, ◌≢◌, ◌∙◌, sym, ap, refl, ℕ, Bool, true, false, List, [], ◌∷◌, ◌++◌, length, arith, Less, Equal, Greater, slice_get}
use Rattle.std.specs.Cmp.{IsTotalOrder}
use Rattle.std.specs.Cmp.Lexicographic.{slice_cmp}
use Rattle.std.specs.Int.{from_bool}
use Rattle.std.specs.Ordering.{nat_cmp, ordering_then, ordering_reverse, is_lt}
use Rattle.std.specs.declared.cmp.Ordering.{Ordering}
use Rattle.std.proofs.lemmas.Cmp.{on_total, nat_list_cmp_total}
use Rattle.node_keys.proofs.AllLaws.{bool_order, then_assoc, then_equal}
use Rattle.node_keys.specs.declared.keys.EdgeKind.{EdgeKind}
use Rattle.node_keys.specs.declared.keys.EdgeKind.TheVariants.{Local, Call, Interrupt, Return}
use Rattle.node_keys.specs.contracts.keys.EdgeKindOrd.TheImpl as kinds
use Rattle.instance_graph.specs.declared.graph.Entered.{Entered}
use Rattle.instance_graph.specs.declared.graph.GraphInst.{GraphInst}
use Rattle.instance_graph.specs.declared.graph.GraphWay.{GraphWay}
use Rattle.instance_graph.specs.declared.graph.GraphWay.TheVariants.{Enters, Recur}
use Rattle.instance_graph.specs.Chain.{kind_numbers, way_numbers, entry_of, turn_of, edge_cmp, IsEdgeUpTo}

-- lists of one length are compared before what follows them
cmp_append : (xs ys us vs : List ℕ) → length xs ≡ length ys
    → slice_cmp nat_cmp (xs ++ us) (ys ++ vs) ≡ ordering_then (slice_cmp nat_cmp xs ys) (slice_cmp nat_cmp us vs)
cmp_append [] [] us vs e = refl
cmp_append [] (y ∷ ys) us vs e = absurd (omega arith)
cmp_append (x ∷ xs) [] us vs e = absurd (omega arith)
cmp_append (x ∷ xs) (y ∷ ys) us vs e =
    ap (ordering_then (nat_cmp x y)) (cmp_append xs ys us vs (omega arith)) ∙ then_assoc (nat_cmp x y) (slice_cmp nat_cmp xs ys) (slice_cmp nat_cmp us vs)

kind_order : (a b : EdgeKind) → kinds.ghosts.cmp a b ≡ slice_cmp nat_cmp (kind_numbers a) (kind_numbers b)
kind_order Local Local = refl
kind_order Local Call = refl
kind_order Local (Interrupt w d) = refl
kind_order Local Return = refl
kind_order Call Local = refl
kind_order Call Call = refl
kind_order Call (Interrupt w d) = refl
kind_order Call Return = refl
kind_order (Interrupt v c) Local = refl
kind_order (Interrupt v c) Call = refl
kind_order (Interrupt v c) (Interrupt w d) = ap (ordering_then (nat_cmp v w)) (bool_order c d ∙ sym (then_equal (nat_cmp (from_bool c) (from_bool d))))
kind_order (Interrupt v c) Return = refl
kind_order Return Local = refl
kind_order Return Call = refl
kind_order Return (Interrupt w d) = refl
kind_order Return Return = refl

kind_length : (a : EdgeKind) → length (kind_numbers a) ≡ 3
kind_length Local = refl
kind_length Call = refl
kind_length (Interrupt v c) = refl
kind_length Return = refl

pub way_length : (a : GraphWay) → length (way_numbers a) ≡ 3
way_length (Enters a) = kind_length a
way_length Recur = refl

-- entries by their kinds, and before recur edges
pub enters_order : (a b : EdgeKind) → kinds.ghosts.cmp a b ≡ slice_cmp nat_cmp (way_numbers (Enters a)) (way_numbers (Enters b))
enters_order a b = kind_order a b

pub entry_first : (a : EdgeKind) → Less ≡ slice_cmp nat_cmp (way_numbers (Enters a)) (way_numbers Recur)
entry_first Local = refl
entry_first Call = refl
entry_first (Interrupt v c) = refl
entry_first Return = refl

pub recur_last : (a : EdgeKind) → Greater ≡ slice_cmp nat_cmp (way_numbers Recur) (way_numbers (Enters a))
recur_last Local = refl
recur_last Call = refl
recur_last (Interrupt v c) = refl
recur_last Return = refl

pub edge_chained : (gs : List GraphInst) (a b : Entered) (n k t i : Ordering) → n ≡ nat_cmp a.node b.node → k ≡ slice_cmp nat_cmp (way_numbers a.way) (way_numbers b.way)
    → t ≡ nat_cmp (entry_of (slice_get gs a.into)) (entry_of (slice_get gs b.into)) → i ≡ nat_cmp a.into b.into
    → ordering_then (ordering_then (ordering_then n k) t) i ≡ edge_cmp gs a b
unfolding edge_cmp turn_of
edge_chained gs a b n k t i en ek et ei =
    let ta = entry_of (slice_get gs a.into) in
    let tb = entry_of (slice_get gs b.into) in
    let i_is = ei ∙ sym (then_equal (nat_cmp a.into b.into)) in
    let whole = cmp_append (way_numbers a.way) (way_numbers b.way) (ta ∷ a.into ∷ []) (tb ∷ b.into ∷ []) (way_length a.way ∙ sym (way_length b.way)) in
    sym (then_assoc (ordering_then n k) t i) ∙ sym (then_assoc n k (ordering_then t i))
    ∙ (λ j. ordering_then (en j) (ordering_then (ek j) (ordering_then (et j) (i_is j))))
    ∙ sym (ap (ordering_then (nat_cmp a.node b.node)) whole)

pub edge_total : (gs : List GraphInst) → IsTotalOrder (edge_cmp gs)
unfolding edge_cmp
edge_total gs = on_total (turn_of gs) nat_list_cmp_total

not_less : (o : Ordering) → o ≡ ordering_reverse o → o ≢ Less
not_less o e is = let a : Less ≡ Greater = sym is ∙ e ∙ ap ordering_reverse is in cc

pub edge_same : (gs : List GraphInst) (e : Entered) → IsEdgeUpTo gs e e
edge_same gs e = not_less (edge_cmp gs e e) ((edge_total gs).antisymm e e)

pub less_of : (o : Ordering) (b : Bool) → b ≡ is_lt o → b ≡ true → o ≡ Less
less_of Less b e h = refl
less_of Equal b e h = absurd (let a : false ≡ true = sym e ∙ h in cc)
less_of Greater b e h = absurd (let a : false ≡ true = sym e ∙ h in cc)

pub not_less_of : (o : Ordering) (b : Bool) → b ≡ is_lt o → b ≡ false → o ≢ Less
not_less_of o b e h is = let a : false ≡ true = sym h ∙ e ∙ ap is_lt is in cc

-- an edge before x comes up to all that x comes up to
pub edge_over : (gs : List GraphInst) (y x : Entered) → edge_cmp gs y x ≡ Less → (z : Entered) → IsEdgeUpTo gs x z → IsEdgeUpTo gs y z
edge_over gs y x before z up = λ less. up ((edge_total gs).trans z y x less before)
