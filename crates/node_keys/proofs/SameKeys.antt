-- Keys with equal numbers are equal.
use Rattle.std.proofs.Common.{◌≡◌, ◌∙◌, sym, ap, refl, ℕ, Bool, true, false, List, [], ◌∷◌, ◌++◌, arith, IsTrue, Less, Equal, Greater}
use Rattle.std.specs.Prelude.{◌↔◌, ◌⊎◌, Option, Some, None}
use Rattle.std.specs.Int.{from_bool}
use Rattle.std.specs.Cmp.{Equal-is}
use Rattle.std.specs.Ordering.{ordering_then}
use Rattle.std.specs.declared.cmp.Ordering.{Ordering}
use Rattle.std.proofs.Common.{inl, inr}
use Rattle.std.proofs.lemmas.Cmp.{tied_itself}
use Rattle.std.proofs.lemmas.Bool.Decides.{same_from_decides}
use Rattle.basics.specs.Lists.{number_at_same, same_parts}
use Rattle.node_keys.specs.declared.keys.Kind.{Kind}
use Rattle.node_keys.specs.declared.keys.Kind.TheVariants.{Root, Call, Vector}
use Rattle.node_keys.specs.declared.keys.InstKey.{InstKey}
use Rattle.node_keys.specs.declared.keys.High.{High}
use Rattle.node_keys.specs.declared.keys.High.TheVariants.{Known, Tag}
use Rattle.node_keys.specs.declared.keys.SpForm.{SpForm}
use Rattle.node_keys.specs.declared.keys.SpForm.TheVariants.{Closed, Open}
use Rattle.node_keys.specs.declared.keys.NodeKey.{NodeKey}
use Rattle.node_keys.specs.Keys.{kind_numbers, high_numbers, form_numbers, pick_numbers, inst_numbers, node_numbers}
use Rattle.node_keys.specs.Order.{numbers_cmp, inst_cmp, node_cmp, same_inst, same_node}
use Rattle.node_keys.specs.Total.{inst_total, node_total, numbers_equal}
use Rattle.node_keys.specs.Laws.{KeysAreTheirNumbers, KeysAreOrdered, NodesGoByInstance}
use Rattle.node_keys.proofs.Chains.{kind_length, inst_length, form_length, rest, node_by_inst}

-- ---- fields

kind_same : (a b : Kind) → kind_numbers a ≡ kind_numbers b → a ≡ b
kind_same Root Root e = refl
kind_same Root Call e = absurd (let h = number_at_same 0 e in omega arith)
kind_same Root (Vector w) e = absurd (let h = number_at_same 0 e in omega arith)
kind_same Call Root e = absurd (let h = number_at_same 0 e in omega arith)
kind_same Call Call e = refl
kind_same Call (Vector w) e = absurd (let h = number_at_same 0 e in omega arith)
kind_same (Vector v) Root e = absurd (let h = number_at_same 0 e in omega arith)
kind_same (Vector v) Call e = absurd (let h = number_at_same 0 e in omega arith)
kind_same (Vector v) (Vector w) e = ap Vector (number_at_same 1 e)

high_same : (a b : High) → high_numbers a ≡ high_numbers b → a ≡ b
high_same (Known h) (Known k) e = ap Known (number_at_same 1 e)
high_same (Known h) (Tag k) e = absurd (let h = number_at_same 0 e in omega arith)
high_same (Tag h) (Known k) e = absurd (let h = number_at_same 0 e in omega arith)
high_same (Tag h) (Tag k) e = ap Tag (number_at_same 1 e)

form_same : (a b : SpForm) → form_numbers a ≡ form_numbers b → a ≡ b
form_same (Closed o) (Closed p) e = ap Closed (number_at_same 1 e)
form_same (Closed o) (Open p k) e = absurd (let h = number_at_same 0 e in omega arith)
form_same (Open o h) (Closed p) e = absurd (let h = number_at_same 0 e in omega arith)
form_same (Open o h) (Open p k) e =
    let offsets = number_at_same 1 e in
    let highs = high_same h k (let both = same_parts (1 ∷ o ∷ []) (1 ∷ p ∷ []) (high_numbers h) (high_numbers k) refl e in both.1) in
    λ i. Open (offsets i) (highs i)

pick_same : (a b : Option ℕ) → pick_numbers a ≡ pick_numbers b → a ≡ b
pick_same None None e = refl
pick_same None (Some w) e = absurd (let h = number_at_same 0 e in omega arith)
pick_same (Some v) None e = absurd (let h = number_at_same 0 e in omega arith)
pick_same (Some v) (Some w) e = ap Some (number_at_same 1 e)

pub bool_same : (a b : Bool) → from_bool a ≡ from_bool b → a ≡ b
bool_same true true e = refl
bool_same true false e = absurd (omega arith)
bool_same false true e = absurd (omega arith)
bool_same false false e = refl

-- ---- keys

pub inst_from_numbers : (a b : InstKey) → inst_numbers a ≡ inst_numbers b → a ≡ b
unfolding inst_numbers
inst_from_numbers a b e =
    let both =
    same_parts (kind_numbers a.kind) (kind_numbers b.kind) (a.entry ∷ a.masks ∷ from_bool a.i ∷ []) (b.entry ∷ b.masks ∷ from_bool b.i ∷ [])
    (kind_length a.kind ∙ sym (kind_length b.kind)) e in
    let kinds = kind_same a.kind b.kind both.0 in
    let entries = number_at_same 0 both.1 in
    let masks = number_at_same 1 both.1 in
    let is = bool_same a.i b.i (number_at_same 2 both.1) in
    λ j. record { kind = kinds j; entry = entries j; masks = masks j; i = is j }

pub node_from_numbers : (a b : NodeKey) → node_numbers a ≡ node_numbers b → a ≡ b
unfolding node_numbers
node_from_numbers a b e =
    let tail : NodeKey → List ℕ = λ c. c.pc ∷ c.masks ∷ from_bool c.i ∷ from_bool c.delay ∷ (form_numbers c.sp ++ pick_numbers c.pick) in
    let both = same_parts (inst_numbers a.inst) (inst_numbers b.inst) (tail a) (tail b) (inst_length a.inst ∙ sym (inst_length b.inst)) e in
    let four : NodeKey → List ℕ = λ c. c.pc ∷ c.masks ∷ from_bool c.i ∷ from_bool c.delay ∷ [] in
    let last : NodeKey → List ℕ = λ c. form_numbers c.sp ++ pick_numbers c.pick in
    let form = same_parts (four a) (four b) (last a) (last b) refl both.1 in
    let pick =
    same_parts (form_numbers a.sp) (form_numbers b.sp) (pick_numbers a.pick) (pick_numbers b.pick) (form_length a.sp ∙ sym (form_length b.sp)) form.1 in
    let insts = inst_from_numbers a.inst b.inst both.0 in
    let places = number_at_same 0 both.1 in
    let masks = number_at_same 1 both.1 in
    let is = bool_same a.i b.i (number_at_same 2 both.1) in
    let delays = bool_same a.delay b.delay (number_at_same 3 both.1) in
    let forms = form_same a.sp b.sp pick.0 in
    let picks = pick_same a.pick b.pick pick.1 in
    λ j. record { inst = insts j; pc = places j; masks = masks j; i = is j; delay = delays j; sp = forms j; pick = picks j }

pub keys_are_their_numbers : KeysAreTheirNumbers
keys_are_their_numbers = record { insts = inst_from_numbers; nodes = node_from_numbers }

-- ---- the order

inst_equal_is : (a b : InstKey) → (inst_cmp a b ≡ Equal) ↔ (a ≡ b)
unfolding inst_cmp
inst_equal_is a b = (
  λ e. inst_from_numbers a b (numbers_equal (inst_numbers a) (inst_numbers b) e),
  λ same. ap (λ (c : InstKey). inst_cmp a c) (sym same) ∙ tied_itself inst_total a,
)

node_equal_is : (a b : NodeKey) → (node_cmp a b ≡ Equal) ↔ (a ≡ b)
unfolding node_cmp
node_equal_is a b = (
  λ e. node_from_numbers a b (numbers_equal (node_numbers a) (node_numbers b) e),
  λ same. ap (λ (c : NodeKey). node_cmp a c) (sym same) ∙ tied_itself node_total a,
)

-- what `==` gives
pub inst_same_is : (a b : InstKey) → IsTrue (same_inst a b) ↔ (a ≡ b)
unfolding same_inst
inst_same_is a b =
    let decides = Equal-is (inst_cmp a b) in
    (λ e. (inst_equal_is a b).0 (decides.0 e), λ same. decides.1 ((inst_equal_is a b).1 same))

pub node_same_is : (a b : NodeKey) → IsTrue (same_node a b) ↔ (a ≡ b)
unfolding same_node
node_same_is a b =
    let decides = Equal-is (node_cmp a b) in
    (λ e. (node_equal_is a b).0 (decides.0 e), λ same. decides.1 ((node_equal_is a b).1 same))

-- keys with equal fields are equal
pub inst_is : (a b : InstKey) → a.kind ≡ b.kind → a.entry ≡ b.entry → a.masks ≡ b.masks → a.i ≡ b.i → a ≡ b
inst_is a b kind entry masks i j = record { kind = kind j; entry = entry j; masks = masks j; i = i j }

pub node_is : (a b : NodeKey) → a.inst ≡ b.inst → a.pc ≡ b.pc → a.masks ≡ b.masks → a.i ≡ b.i → a.delay ≡ b.delay → a.sp ≡ b.sp → a.pick ≡ b.pick → a ≡ b
node_is a b inst pc masks i delay sp pick j =
    record { inst = inst j; pc = pc j; masks = masks j; i = i j; delay = delay j; sp = sp j; pick = pick j }

-- a test of fields is `==`
pub inst_tested : (a b : InstKey) (r : Bool) → IsTrue r ↔ (a ≡ b) → r ≡ same_inst a b
inst_tested a b r e = same_from_decides r (same_inst a b) e (inst_same_is a b)

pub node_tested : (a b : NodeKey) (r : Bool) → IsTrue r ↔ (a ≡ b) → r ≡ same_node a b
node_tested a b r e = same_from_decides r (same_node a b) e (node_same_is a b)

pub keys_are_ordered : KeysAreOrdered
keys_are_ordered = record {
  insts = inst_total;
  nodes = node_total;
  equal_insts = inst_equal_is;
  equal_nodes = node_equal_is;
  same_insts = inst_same_is;
  same_nodes = node_same_is;
}

-- ---- by instance

less_or_equal : (o r : Ordering) → ordering_then o r ≡ Less → (o ≡ Less) ⊎ (o ≡ Equal)
less_or_equal Less r e = inl refl
less_or_equal Equal r e = inr refl
less_or_equal Greater r e = absurd (cc)

inst_first : (a b : NodeKey) → inst_cmp a.inst b.inst ≡ Less → node_cmp a b ≡ Less
inst_first a b e = node_by_inst a b ∙ ap (λ (o : Ordering). ordering_then o (numbers_cmp (rest a) (rest b))) e

inst_rises : (a b : NodeKey) → node_cmp a b ≡ Less → (inst_cmp a.inst b.inst ≡ Less) ⊎ (a.inst ≡ b.inst)
inst_rises a b e = elim (less_or_equal (inst_cmp a.inst b.inst) (numbers_cmp (rest a) (rest b)) (sym (node_by_inst a b) ∙ e)) [
  | inl less ↦ inl less
  | inr equal ↦ inr ((inst_equal_is a.inst b.inst).0 equal)
]

-- a node between two of one instance is of that instance
inst_between : (a b c : NodeKey) → node_cmp a b ≡ Less → node_cmp b c ≡ Less → a.inst ≡ c.inst → b.inst ≡ a.inst
inst_between a b c up over same = elim (inst_rises a b up) [
  | inr equal ↦ sym equal
  | inl less ↦
      let down : node_cmp c b ≡ Less = inst_first c b (ap (λ (i : InstKey). inst_cmp i b.inst) (sym same) ∙ less) in
      let round : node_cmp b b ≡ Less = node_total.trans b c b over down in
      absurd (let itself = tied_itself node_total b in cc)
]

pub nodes_go_by_instance : NodesGoByInstance
nodes_go_by_instance = record { first = inst_first; rises = inst_rises; between = inst_between }
