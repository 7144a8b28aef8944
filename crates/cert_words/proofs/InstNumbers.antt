-- The number of an instance's line.
use Rattle.std.proofs.Common.{ℕ, zero, suc, ◌+◌, ◌≡◌, List, [], ◌∷◌, Bool, true, false, refl, ap, sym, ◌∙◌, arith, Some, slice_get}
use Rattle.std.specs.Prelude.{Contains}
use Rattle.std.specs.List.Sorted.{IsStrictlySortedBy}
use Rattle.std.specs.Ordering.{is_eq}
use Rattle.std.specs.declared.cmp.Ordering.{Ordering}
use Rattle.std.specs.declared.cmp.Ordering.TheVariants.{Less, Equal, Greater}
use Rattle.std.proofs.lemmas.Bool.{false≢true}
use Rattle.std.proofs.lemmas.Option.{same_Some, none-some}
use Rattle.node_keys.specs.declared.keys.InstKey.{InstKey}
use Rattle.node_keys.specs.Order.{inst_cmp, same_inst}
use Rattle.node_keys.specs.Laws.{KeysAreOrdered}
use Rattle.certificate.specs.declared.instance.Inst.{Inst}
use Rattle.certificate.specs.Insts.{inst_keys}
use Rattle.certificate.proofs.Instances.{key_has}
use Rattle.cert_words.specs.Text.{inst_number}

equal_is : (o : Ordering) → is_eq o ≡ true → o ≡ Equal
equal_is Less e = cc
equal_is Equal e = refl
equal_is Greater e = cc

same_is : KeysAreOrdered → (a b : InstKey) → same_inst a b ≡ true → a ≡ b
unfolding same_inst
same_is o a b e = (o.equal_insts a b).0 (equal_is (inst_cmp a b) e)

same_if : KeysAreOrdered → (a b : InstKey) → a ≡ b → same_inst a b ≡ true
unfolding same_inst
same_if o a b e = ap is_eq ((o.equal_insts a b).1 e)

less_differs : (a b : InstKey) → inst_cmp a b ≡ Less → same_inst a b ≡ false
unfolding same_inst
less_differs a b e = ap is_eq e

-- an instance's number is its index
pub number_unique : KeysAreOrdered → (xs : List Inst) (i : ℕ) (x : Inst) → IsStrictlySortedBy inst_cmp (inst_keys xs) → slice_get xs i ≡ Some x → inst_number x.key xs ≡ i
unfolding IsStrictlySortedBy
number_unique o [] i x h e = absurd (none-some x e)
number_unique o (y ∷ ys) zero x h e = rw (same_if o y.key x.key (ap (λ (z : Inst). z.key) (same_Some y x e))) refl
number_unique o (y ∷ ys) (suc i) x h e =
    let other = less_differs y.key x.key (key_has (λ z. inst_cmp y.key z ≡ Less) ys i x h.0 e) in
    let more = number_unique o ys i x h.1 e in
    rw (other, more) (omega arith)

-- an instance in the list has a number
pub record HasNumber (xs : List Inst) (key : InstKey) : Type 0 where
  pub inst : Inst
  pub there : slice_get xs (inst_number key xs) ≡ Some inst
  pub same : inst.key ≡ key

number_by : (t : Bool) (x : Inst) (xs : List Inst) (key : InstKey) → same_inst x.key key ≡ t → (t ≡ true → x.key ≡ key) → (t ≡ false → HasNumber xs key) → HasNumber (x ∷ xs) key
number_by true x xs key e here there = record { inst = x; there = rw e refl; same = here refl }
number_by false x xs key e here there =
    let h = there refl in
    let next : inst_number key xs + 1 ≡ suc (inst_number key xs) = omega arith in
    record { inst = h.inst; there = rw (e, next) h.there; same = h.same }

contained : KeysAreOrdered → (x : Inst) (xs : List Inst) (key : InstKey) → Contains (inst_keys (x ∷ xs)) key → same_inst x.key key ≡ false → Contains (inst_keys xs) key
contained o x xs key (zero, l, e) other = absurd (false≢true (sym other ∙ same_if o x.key key e))
contained o x xs key (suc i, l, e) other = (i, omega (arith, l), e)

pub has_number : KeysAreOrdered → (xs : List Inst) (key : InstKey) → Contains (inst_keys xs) key → HasNumber xs key
has_number o [] key h = absurd (omega (arith, h.1))
has_number o (x ∷ xs) key h =
    number_by (same_inst x.key key) x xs key refl (λ t. same_is o x.key key t) (λ f. has_number o xs key (contained o x xs key h f))
