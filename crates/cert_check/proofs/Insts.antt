-- Instances by their numbers.
use Rattle.std.proofs.Common.{◌≡◌, refl, sym, ap, subst, ℕ, zero, suc, ◌<◌, ⊎_elim, Bool, true, false, cond, List, [], ◌∷◌, length, get_or, Some, slice_get, Contains, arith}
use Rattle.std.specs.List.{AllByRecursion}
use Rattle.std.specs.List.Sorted.{IsStrictlySortedBy, IsPartitionedBy, IsPartitionPoint}
use Rattle.std.specs.Ordering.{is_lt}
use Rattle.std.specs.declared.cmp.Ordering.TheVariants.{Less}
use Rattle.std.proofs.lemmas.Bool.{cases_lt}
use Rattle.std.proofs.lemmas.Bool.Decides.{eqb_tells}
use Rattle.std.proofs.lemmas.Option.{none-some, same_Some, slice_get_within, get_or_from_slice_get, slice_get-get_or}
use Rattle.basics.specs.Booleans.{less_by_test, never_both}
use Rattle.basics.specs.Items.{none_in, first_or_further}
use Rattle.node_keys.specs.declared.keys.InstKey.{InstKey}
use Rattle.node_keys.specs.Order.{inst_cmp, same_inst}
use Rattle.node_keys.proofs.AllLaws.{keys_are_ordered}
use Rattle.certificate.specs.declared.instance.Inst.{Inst}
use Rattle.certificate.specs.Insts.{inst_keys, rank_in, need_in}
use Rattle.certificate.proofs.Instances.{key_has}
use Rattle.cert_check.specs.Demands.{AreInstances, number_in, rank_at, need_at}

not_itself : (a b : InstKey) → inst_cmp a b ≡ Less → a ≡ b → ⊥
not_itself a b lt e = let same = (keys_are_ordered.equal_insts a b).1 e in cc

each_at : (P : Inst → Type 0) (xs : List Inst) (j : ℕ) (b : Inst) → AllByRecursion P xs → slice_get xs j ≡ Some b → P b
each_at P [] j b h e = absurd (none-some b e)
each_at P (x ∷ xs) zero b h e = subst P (same_Some x b e) h.0
each_at P (x ∷ xs) (suc j) b h e = each_at P xs j b h.1 e

pair : (xs : List Inst) (i j : ℕ) (a b : Inst) → IsStrictlySortedBy inst_cmp (inst_keys xs) → slice_get xs i ≡ Some a → slice_get xs j ≡ Some b → i < j
    → inst_cmp a.key b.key ≡ Less
unfolding IsStrictlySortedBy
pair [] i j a b s ea eb lt = absurd (none-some a ea)
pair (x ∷ xs) zero zero a b s ea eb lt = absurd (omega (arith, lt))
pair (x ∷ xs) zero (suc j) a b s ea eb lt =
    subst (λ (n : Inst). inst_cmp n.key b.key ≡ Less) (same_Some x a ea) (key_has (λ k. inst_cmp x.key k ≡ Less) xs j b s.0 eb)
pair (x ∷ xs) (suc i) zero a b s ea eb lt = absurd (omega (arith, lt))
pair (x ∷ xs) (suc i) (suc j) a b s ea eb lt = pair xs i j a b s.1 ea eb (omega (arith, lt))

-- ---- the instance of a key

-- it has this number
pub record HasInstNumber (xs : List Inst) (key : InstKey) (j : ℕ) : Type 0 where
  pub inst : Inst
  pub is : slice_get xs j ≡ Some inst
  pub same : inst.key ≡ key

pub number_there : (xs : List Inst) (key : InstKey) → Contains (inst_keys xs) key → (j : ℕ) × HasInstNumber xs key j
number_there [] key h = absurd (none_in key h)
number_there (x ∷ xs) key h =
    ⊎_elim (λ e. (0, record { inst = x; is = refl; same = sym e }))
    (λ i. let w = number_there xs key i in (suc w.0, record { inst = w.1.inst; is = w.1.is; same = w.1.same }))
    (first_or_further x.key key (inst_keys xs) h)

other_by : (a b : InstKey) (t : Bool) → same_inst a b ≡ t → (a ≡ b → ⊥) → t ≡ false
other_by a b true e h = absurd (h ((keys_are_ordered.same_insts a b).0 e))
other_by a b false e h = refl

other : (a b : InstKey) → (a ≡ b → ⊥) → same_inst a b ≡ false
other a b h = other_by a b (same_inst a b) refl h

number_at : (xs : List Inst) (j : ℕ) (x : Inst) → IsStrictlySortedBy inst_cmp (inst_keys xs) → slice_get xs j ≡ Some x → number_in xs x.key ≡ j
unfolding IsStrictlySortedBy
number_at [] j x s e = absurd (none-some x e)
number_at (y ∷ ys) zero x s e = rw ((keys_are_ordered.same_insts y.key x.key).1 (ap (λ (z : Inst). z.key) (same_Some y x e))) refl
number_at (y ∷ ys) (suc j) x s e =
    rw (other y.key x.key (not_itself y.key x.key (key_has (λ k. inst_cmp y.key k ≡ Less) ys j x s.0 e))) (ap suc (number_at ys j x s.1 e))

pub one_number : (xs : List Inst) (key : InstKey) (j : ℕ) → AreInstances xs → HasInstNumber xs key j → number_in xs key ≡ j
one_number xs key j are h = subst (λ k. number_in xs k ≡ j) h.same (number_at xs j h.inst are.ascend h.is)

-- the computed number is its number
pub has_number : (xs : List Inst) (key : InstKey) → AreInstances xs → Contains (inst_keys xs) key → HasInstNumber xs key (number_in xs key)
has_number xs key are h =
    let w = number_there xs key h in
    subst (HasInstNumber xs key) (sym (one_number xs key w.0 are w.1)) w.1

pub rank_there : (xs : List Inst) (key : InstKey) → rank_at xs (number_in xs key) ≡ rank_in xs key
rank_there [] key = refl
rank_there (x ∷ xs) key = by (rank_there xs key) (same_inst x.key key)
  where
    by : rank_at xs (number_in xs key) ≡ rank_in xs key → (b : Bool) → rank_at (x ∷ xs) (cond b 0 (suc (number_in xs key))) ≡ cond b x.rank (rank_in xs key)
    by e true = refl
    by e false = e

pub need_there : (xs : List Inst) (key : InstKey) → need_at xs (number_in xs key) ≡ need_in xs key
need_there [] key = refl
need_there (x ∷ xs) key = by (need_there xs key) (same_inst x.key key)
  where
    by : need_at xs (number_in xs key) ≡ need_in xs key → (b : Bool) → need_at (x ∷ xs) (cond b 0 (suc (number_in xs key))) ≡ cond b x.need (need_in xs key)
    by e true = refl
    by e false = e

-- ---- the search

abbrev pub is_below_key : InstKey → Inst → Bool
is_below_key k x = is_lt (inst_cmp x.key k)

pub parted : (xs : List Inst) (k : InstKey) → AreInstances xs → IsPartitionedBy (is_below_key k) xs
parted xs k are = λ i j d le lt up.
    ⊎_elim (λ e. subst (λ n. is_below_key k (get_or xs n d) ≡ true) (sym e.1) up)
    (λ ne. ap is_lt (keys_are_ordered.insts.trans (get_or xs i d).key (get_or xs j d).key k
    (pair xs i j (get_or xs i d) (get_or xs j d) are.ascend (slice_get-get_or xs i d (omega (arith, le, lt))) (slice_get-get_or xs j d lt)
    (let d = ne.1 in omega (arith, le, d))) (less_by_test (inst_cmp (get_or xs j d).key k) up)))
    (eqb_tells i j)

module _ (xs : List Inst) (k : InstKey) (at : ℕ) (are : AreInstances xs)
    (point : IsPartitionPoint (λ x. is_below_key k x ≡ true) (λ x. is_below_key k x ≡ false) xs at) (h : Contains (inst_keys xs) k) where
  not_before : (j : ℕ) → HasInstNumber xs k j → j < at → ⊥
  not_before j p lt =
      let up = subst (λ m. is_below_key k m ≡ true) (get_or_from_slice_get xs j p.inst p.inst p.is) (point.0 j p.inst (omega arith) lt) in
      not_itself p.inst.key k (less_by_test (inst_cmp p.inst.key k) up) p.same

  not_behind : (j : ℕ) → HasInstNumber xs k j → at < j → ⊥
  not_behind j p lt =
      let inside : at < length xs = let w = slice_get_within xs j p.inst p.is in omega (arith, w, lt) in
      let y = get_or xs at p.inst in
      let down : is_below_key k y ≡ false = point.1 at p.inst (omega arith) inside in
      let less : inst_cmp y.key p.inst.key ≡ Less = pair xs at j y p.inst are.ascend (slice_get-get_or xs at p.inst inside) p.is lt in
      never_both (is_below_key k y) (ap is_lt (subst (λ z. inst_cmp y.key z ≡ Less) p.same less)) down

  pub found : (at ≡ number_in xs k) × (at < length xs)
  found =
      let p = has_number xs k are h in
      let j = number_in xs k in
      let e : at ≡ j = ⊎_elim (λ lt. absurd (not_behind j p lt)) (λ le. ⊎_elim (λ lt. absurd (not_before j p lt)) (λ ge. omega (arith, le, ge)) (cases_lt j at)) (cases_lt at j) in
      (e, subst (λ n. n < length xs) (sym e) (slice_get_within xs j p.inst p.is))
