-- The order of keys as the code computes it, field by field.
use Rattle.std.proofs.Common.{◌≡◌, ◌∙◌, sym, ap, refl, ℕ, Bool, true, false, List, [], ◌∷◌, ◌++◌, length, length-append, arith, Less, Equal, Greater}
use Rattle.std.specs.Int.{from_bool}
use Rattle.std.specs.Prelude.{Option, Some, None}
use Rattle.std.specs.Option.{option_cmp}
use Rattle.std.specs.Ordering.{nat_cmp, bool_cmp, ordering_then}
use Rattle.std.specs.declared.cmp.Ordering.{Ordering}
use Rattle.node_keys.specs.declared.keys.Kind.{Kind}
use Rattle.node_keys.specs.declared.keys.Kind.TheVariants.{Root, Call, Vector}
use Rattle.node_keys.specs.declared.keys.InstKey.{InstKey}
use Rattle.node_keys.specs.declared.keys.High.{High}
use Rattle.node_keys.specs.declared.keys.High.TheVariants.{Known, Tag}
use Rattle.node_keys.specs.declared.keys.SpForm.{SpForm}
use Rattle.node_keys.specs.declared.keys.SpForm.TheVariants.{Closed, Open}
use Rattle.node_keys.specs.declared.keys.NodeKey.{NodeKey}
use Rattle.node_keys.specs.contracts.keys.KindOrd.TheImpl as kinds
use Rattle.node_keys.specs.contracts.keys.HighOrd.TheImpl as highs
use Rattle.node_keys.specs.contracts.keys.SpFormOrd.TheImpl as forms
use Rattle.node_keys.specs.Keys.{kind_numbers, high_numbers, form_numbers, pick_numbers, inst_numbers, node_numbers}
use Rattle.node_keys.specs.Order.{numbers_cmp, inst_cmp, node_cmp}

pub then_assoc : (a b c : Ordering) → ordering_then a (ordering_then b c) ≡ ordering_then (ordering_then a b) c
then_assoc Less b c = refl
then_assoc Equal b c = refl
then_assoc Greater b c = refl

pub then_equal : (a : Ordering) → ordering_then a Equal ≡ a
then_equal Less = refl
then_equal Equal = refl
then_equal Greater = refl

-- lists of one length are compared before what follows them
pub cmp_append : (xs ys us vs : List ℕ) → length xs ≡ length ys
    → numbers_cmp (xs ++ us) (ys ++ vs) ≡ ordering_then (numbers_cmp xs ys) (numbers_cmp us vs)
cmp_append [] [] us vs e = refl
cmp_append [] (y ∷ ys) us vs e = absurd (omega arith)
cmp_append (x ∷ xs) [] us vs e = absurd (omega arith)
cmp_append (x ∷ xs) (y ∷ ys) us vs e =
    ap (ordering_then (nat_cmp x y)) (cmp_append xs ys us vs (omega arith)) ∙ then_assoc (nat_cmp x y) (numbers_cmp xs ys) (numbers_cmp us vs)

-- ---- variants

pub kind_order : (a b : Kind) → kinds.ghosts.cmp a b ≡ numbers_cmp (kind_numbers a) (kind_numbers b)
kind_order Root Root = refl
kind_order Root Call = refl
kind_order Root (Vector w) = refl
kind_order Call Root = refl
kind_order Call Call = refl
kind_order Call (Vector w) = refl
kind_order (Vector v) Root = refl
kind_order (Vector v) Call = refl
kind_order (Vector v) (Vector w) = sym (then_equal (nat_cmp v w))

pub high_order : (a b : High) → highs.ghosts.cmp a b ≡ numbers_cmp (high_numbers a) (high_numbers b)
high_order (Known h) (Known k) = sym (then_equal (nat_cmp h k))
high_order (Known h) (Tag k) = refl
high_order (Tag h) (Known k) = refl
high_order (Tag h) (Tag k) = sym (then_equal (nat_cmp h k))

pub form_order : (a b : SpForm) → forms.ghosts.cmp a b ≡ numbers_cmp (form_numbers a) (form_numbers b)
form_order (Closed o) (Closed p) = sym (then_equal (nat_cmp o p))
form_order (Closed o) (Open p k) = refl
form_order (Open o h) (Closed p) = refl
form_order (Open o h) (Open p k) = ap (ordering_then (nat_cmp o p)) (high_order h k)

pub form_length : (a : SpForm) → length (form_numbers a) ≡ 4
form_length (Closed o) = refl
form_length (Open o (Known h)) = refl
form_length (Open o (Tag k)) = refl

pick_order : (a b : Option ℕ) → option_cmp nat_cmp a b ≡ numbers_cmp (pick_numbers a) (pick_numbers b)
pick_order None None = refl
pick_order None (Some w) = refl
pick_order (Some v) None = refl
pick_order (Some v) (Some w) = sym (then_equal (nat_cmp v w))

pub bool_order : (a b : Bool) → bool_cmp a b ≡ nat_cmp (from_bool a) (from_bool b)
bool_order true true = refl
bool_order true false = refl
bool_order false true = refl
bool_order false false = refl

-- ---- keys

pub kind_length : (a : Kind) → length (kind_numbers a) ≡ 2
kind_length Root = refl
kind_length Call = refl
kind_length (Vector v) = refl

pub inst_length : (a : InstKey) → length (inst_numbers a) ≡ 5
unfolding inst_numbers
inst_length a = length-append (kind_numbers a.kind) (a.entry ∷ a.masks ∷ from_bool a.i ∷ []) ∙ omega (arith, kind_length a.kind)

pub inst_chained : (a b : InstKey) (k e m i : Ordering) → k ≡ kinds.ghosts.cmp a.kind b.kind → e ≡ nat_cmp a.entry b.entry
    → m ≡ nat_cmp a.masks b.masks → i ≡ bool_cmp a.i b.i → ordering_then (ordering_then (ordering_then k e) m) i ≡ inst_cmp a b
unfolding inst_cmp inst_numbers
inst_chained a b k e m i ek ee em ei =
    let kinds_are = ek ∙ kind_order a.kind b.kind in
    let i_is = ei ∙ bool_order a.i b.i in
    let whole =
    cmp_append (kind_numbers a.kind) (kind_numbers b.kind) (a.entry ∷ a.masks ∷ from_bool a.i ∷ []) (b.entry ∷ b.masks ∷ from_bool b.i ∷ [])
    (kind_length a.kind ∙ sym (kind_length b.kind)) in
    sym (then_assoc (ordering_then k e) m i) ∙ sym (then_assoc k e (ordering_then m i))
    ∙ (λ j. ordering_then (kinds_are j) (ordering_then (ee j) (ordering_then (em j) ((i_is ∙ sym (then_equal (nat_cmp (from_bool a.i) (from_bool b.i)))) j))))
    ∙ sym whole

abbrev pub rest : NodeKey → List ℕ
rest a = a.pc ∷ a.masks ∷ from_bool a.i ∷ from_bool a.delay ∷ (form_numbers a.sp ++ pick_numbers a.pick)

-- nodes are compared by instance first
pub node_by_inst : (a b : NodeKey) → node_cmp a b ≡ ordering_then (inst_cmp a.inst b.inst) (numbers_cmp (rest a) (rest b))
unfolding inst_cmp node_cmp node_numbers
node_by_inst a b = cmp_append (inst_numbers a.inst) (inst_numbers b.inst) (rest a) (rest b) (inst_length a.inst ∙ sym (inst_length b.inst))

pub node_chained : (a b : NodeKey) (n p m i d f c : Ordering) → n ≡ inst_cmp a.inst b.inst → p ≡ nat_cmp a.pc b.pc
    → m ≡ nat_cmp a.masks b.masks → i ≡ bool_cmp a.i b.i → d ≡ bool_cmp a.delay b.delay → f ≡ forms.ghosts.cmp a.sp b.sp
    → c ≡ option_cmp nat_cmp a.pick b.pick
    → ordering_then (ordering_then (ordering_then (ordering_then (ordering_then (ordering_then n p) m) i) d) f) c ≡ node_cmp a b
node_chained a b n p m i d f c en ep em ei ed ef ec =
    let i_is = ei ∙ bool_order a.i b.i in
    let d_is = ed ∙ bool_order a.delay b.delay in
    let f_is = ef ∙ form_order a.sp b.sp in
    let c_is = ec ∙ pick_order a.pick b.pick in
    let last =
    cmp_append (form_numbers a.sp) (form_numbers b.sp) (pick_numbers a.pick) (pick_numbers b.pick) (form_length a.sp ∙ sym (form_length b.sp)) in
    sym (then_assoc (ordering_then (ordering_then (ordering_then (ordering_then n p) m) i) d) f c)
    ∙ sym (then_assoc (ordering_then (ordering_then (ordering_then n p) m) i) d (ordering_then f c))
    ∙ sym (then_assoc (ordering_then (ordering_then n p) m) i (ordering_then d (ordering_then f c)))
    ∙ sym (then_assoc (ordering_then n p) m (ordering_then i (ordering_then d (ordering_then f c))))
    ∙ sym (then_assoc n p (ordering_then m (ordering_then i (ordering_then d (ordering_then f c)))))
    ∙ (λ j. ordering_then (en j) (ordering_then (ep j) (ordering_then (em j) (ordering_then (i_is j) (ordering_then (d_is j) (ordering_then (f_is j) (c_is j)))))))
    ∙ ap (λ (o : Ordering). ordering_then (inst_cmp a.inst b.inst) (ordering_then (nat_cmp a.pc b.pc) (ordering_then (nat_cmp a.masks b.masks) (ordering_then (nat_cmp (from_bool a.i) (from_bool b.i)) (ordering_then (nat_cmp (from_bool a.delay) (from_bool b.delay)) o))))) (sym last)
    ∙ sym (node_by_inst a b)
