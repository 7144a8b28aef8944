-- Bits that a partly known byte and a mask have in common.
use Rattle.std.proofs.Common.{◌≡◌, ◌∙◌, sym, ap, subst, refl, inl, inr, ℕ, zero, suc, ◌-◌, ◌<◌, ◌≤◌, ◌==◌, ◌&&◌, arith, Bool, true, false, cond, max, eq-eqb, eqb-true, bit_or, w8}
use Rattle.std.specs.Int.{bit_at, from_bool, bit_not}
use Rattle.std.proofs.lemmas.Bool.{cases_Bool, and_parts, and_from}
use Rattle.std.proofs.lemmas.Nat.Bits.{bit_at-lt, bit_at_or, bit_at_not}
use Rattle.avr_model.specs.Bits.{any_below}
use Rattle.avr_model.specs.Vectors.{has_common}
use Rattle.avr_model.proofs.AllLaws.{some_below, any_found}
use Rattle.bit_domain.specs.declared.bits.Tri.{Tri}
use Rattle.bit_domain.specs.declared.bits.Tri.TheVariants.{Zero, One, Any}
use Rattle.bit_domain.specs.declared.bytes.TriByte.{TriByte}
use Rattle.bit_domain.specs.Tri.{Permits, permits}
use Rattle.bit_domain.specs.TriByte.{tri_of, tri_at, Has, IsWithin}
use Rattle.bit_domain.proofs.AllLaws.{value_in_known, tests_tell_members, bytes_are_sets}
use Rattle.vector_table.proofs.AllLaws.{any_same, none_at, common_at, common_bit}
use Rattle.node_keys.specs.Splits.{is_one, is_any, common_tri}
use Rattle.node_keys.specs.Wakes.{may_have}

true_and_false : (t : Bool) → t ≡ true → t ≡ false → ⊥
true_and_false true a b = absurd (cc)
true_and_false false a b = absurd (cc)

-- ---- the two tests of `common_tri`

abbrev pub some_one : TriByte → ℕ → Bool
some_one value mask = any_below 8 (λ j. is_one (tri_at value j) && (bit_at mask j == 1))

abbrev pub some_any : TriByte → ℕ → Bool
some_any value mask = any_below 8 (λ j. is_any (tri_at value j) && (bit_at mask j == 1))

pub by_tests : (value : TriByte) (mask : ℕ) (a b : Bool) → some_one value mask ≡ a → some_any value mask ≡ b
    → common_tri value mask ≡ cond a One (cond b Any Zero)
unfolding common_tri
by_tests value mask a b one any = λ i. cond (one i) One (cond (any i) Any Zero)

-- ---- these tests by bytes

one_tri : (k v : ℕ) → v ≤ k → k < 2 → v < 2 → is_one (tri_of k v) ≡ (v == 1)
one_tri zero zero le lt small = refl
one_tri zero (suc v) le lt small = absurd (omega arith)
one_tri (suc zero) zero le lt small = refl
one_tri (suc zero) (suc zero) le lt small = refl
one_tri (suc zero) (suc (suc v)) le lt small = absurd (omega arith)
one_tri (suc (suc k)) v le lt small = absurd (omega arith)

any_tri : (k v : ℕ) → k < 2 → v < 2 → is_any (tri_of k v) ≡ (1 - k == 1)
any_tri zero v lt small = refl
any_tri (suc zero) zero lt small = refl
any_tri (suc zero) (suc zero) lt small = refl
any_tri (suc zero) (suc (suc v)) lt small = absurd (omega arith)
any_tri (suc (suc k)) v lt small = absurd (omega arith)

may_tri : (k v : ℕ) → v ≤ k → k < 2 → v < 2 → permits (tri_of k v) 1 ≡ (max v (1 - k) == 1)
may_tri zero zero le lt small = refl
may_tri zero (suc v) le lt small = absurd (omega arith)
may_tri (suc zero) zero le lt small = refl
may_tri (suc zero) (suc zero) le lt small = refl
may_tri (suc zero) (suc (suc v)) le lt small = absurd (omega arith)
may_tri (suc (suc k)) v le lt small = absurd (omega arith)

not_known : (value : TriByte) (j : ℕ) → j < 8 → value.known < 256 → bit_at (bit_not w8 value.known) j ≡ 1 - bit_at value.known j
not_known value j lt small = bit_at_not w8 value.known j small lt

pub one_coded : (value : TriByte) (mask : ℕ) → has_common value.value mask ≡ some_one value mask
unfolding has_common
one_coded value mask =
    any_same 8 (λ j. (bit_at value.value j == 1) && (bit_at mask j == 1)) (λ j. is_one (tri_at value j) && (bit_at mask j == 1))
    (λ j lt. ap (λ (b : Bool). b && (bit_at mask j == 1)) (sym (one_tri (bit_at value.known j) (bit_at value.value j) (value_in_known value j) (bit_at-lt value.known j) (bit_at-lt value.value j))))

pub any_coded : (value : TriByte) (mask : ℕ) → value.known < 256 → has_common (bit_not w8 value.known) mask ≡ some_any value mask
unfolding has_common
any_coded value mask small =
    any_same 8 (λ j. (bit_at (bit_not w8 value.known) j == 1) && (bit_at mask j == 1)) (λ j. is_any (tri_at value j) && (bit_at mask j == 1))
    (λ j lt. ap (λ (b : Bool). b && (bit_at mask j == 1))
    (ap (λ (x : ℕ). x == 1) (not_known value j lt small) ∙ sym (any_tri (bit_at value.known j) (bit_at value.value j) (bit_at-lt value.known j) (bit_at-lt value.value j))))

pub may_coded : (value : TriByte) (mask : ℕ) → value.known < 256 → has_common (bit_or value.value (bit_not w8 value.known)) mask ≡ may_have value mask
unfolding has_common may_have
may_coded value mask small =
    any_same 8 (λ j. (bit_at (bit_or value.value (bit_not w8 value.known)) j == 1) && (bit_at mask j == 1)) (λ j. permits (tri_at value j) 1 && (bit_at mask j == 1))
    (λ j lt. ap (λ (b : Bool). b && (bit_at mask j == 1))
    (ap (λ (x : ℕ). x == 1) (bit_at_or value.value (bit_not w8 value.known) j ∙ ap (max (bit_at value.value j)) (not_known value j lt small))
    ∙ sym (may_tri (bit_at value.known j) (bit_at value.value j) (value_in_known value j) (bit_at-lt value.known j) (bit_at-lt value.value j))))

-- ---- what the tests find

tested : (p : Tri → Bool) (value : TriByte) (mask : ℕ) → any_below 8 (λ j. p (tri_at value j) && (bit_at mask j == 1)) ≡ true
    → (j : ℕ) × ((j < 8) × ((p (tri_at value j) ≡ true) × (bit_at mask j ≡ 1)))
tested p value mask h =
    let f = any_found 8 (λ j. p (tri_at value j) && (bit_at mask j == 1)) h in
    let parts = and_parts (p (tri_at value f.0)) (bit_at mask f.0 == 1) f.2 in
    (f.0, (f.1, (parts.0, eqb-true (bit_at mask f.0) 1 parts.1)))

untested : (p : Tri → Bool) (value : TriByte) (mask j : ℕ) → any_below 8 (λ j. p (tri_at value j) && (bit_at mask j == 1)) ≡ false → j < 8 → bit_at mask j ≡ 1
    → p (tri_at value j) ≡ false
untested p value mask j none lt one = elim (cases_Bool (p (tri_at value j))) [
  | inl here ↦
      absurd (true_and_false (p (tri_at value j) && (bit_at mask j == 1)) (and_from (p (tri_at value j)) (bit_at mask j == 1) here (eq-eqb (bit_at mask j) 1 one))
      (none_at 8 (λ j. p (tri_at value j) && (bit_at mask j == 1)) j none lt))
  | inr other ↦ other
]

is_One : (t : Tri) → is_one t ≡ true → t ≡ One
is_One Zero h = absurd (cc)
is_One One h = refl
is_One Any h = absurd (cc)

is_Any : (t : Tri) → is_any t ≡ true → t ≡ Any
is_Any Zero h = absurd (cc)
is_Any One h = absurd (cc)
is_Any Any h = refl

is_Zero : (t : Tri) → is_one t ≡ false → is_any t ≡ false → t ≡ Zero
is_Zero Zero h g = refl
is_Zero One h g = absurd (cc)
is_Zero Any h g = absurd (cc)

pub one_there : (value : TriByte) (mask : ℕ) → some_one value mask ≡ true → (j : ℕ) × ((j < 8) × ((tri_at value j ≡ One) × (bit_at mask j ≡ 1)))
one_there value mask h = let f = tested is_one value mask h in (f.0, (f.1.0, (is_One (tri_at value f.0) f.1.1.0, f.1.1.1)))

pub any_there : (value : TriByte) (mask : ℕ) → some_any value mask ≡ true → (j : ℕ) × ((j < 8) × ((tri_at value j ≡ Any) × (bit_at mask j ≡ 1)))
any_there value mask h = let f = tested is_any value mask h in (f.0, (f.1.0, (is_Any (tri_at value f.0) f.1.1.0, f.1.1.1)))

pub not_one : (value : TriByte) (mask j : ℕ) → some_one value mask ≡ false → j < 8 → bit_at mask j ≡ 1 → is_one (tri_at value j) ≡ false
not_one value mask j none lt one = untested is_one value mask j none lt one

pub zero_there : (value : TriByte) (mask j : ℕ) → some_one value mask ≡ false → some_any value mask ≡ false → j < 8 → bit_at mask j ≡ 1 → tri_at value j ≡ Zero
zero_there value mask j none known lt one = is_Zero (tri_at value j) (untested is_one value mask j none lt one) (untested is_any value mask j known lt one)

-- ---- members

-- a byte and a mask have no 1 at one bit if the byte has none in the mask
pub no_common : (byte mask : ℕ) → ((j : ℕ) → j < 8 → bit_at mask j ≡ 1 → bit_at byte j ≡ 0) → has_common byte mask ≡ false
no_common byte mask h = elim (cases_Bool (has_common byte mask)) [
  | inl some ↦ absurd (let f = common_bit byte mask some in let none = h f.0 f.1.0 f.1.1.1 in let one = f.1.1.0 in omega arith)
  | inr none ↦ none
]

pub more_common : (a b mask : ℕ) → ((j : ℕ) → j < 8 → bit_at a j ≤ bit_at b j) → has_common a mask ≡ true → has_common b mask ≡ true
more_common a b mask le some =
    let f = common_bit a mask some in
    let more = le f.0 f.1.0 in
    let small = bit_at-lt b f.0 in
    let one = f.1.1.0 in
    common_at b mask f.0 f.1.0 (omega arith) f.1.1.1

zero_bit : (t : Tri) (x : ℕ) → t ≡ Zero → Permits t x → x ≡ 0
zero_bit t x e p = subst (λ (t : Tri). Permits t x) e p

one_bit : (t : Tri) (x : ℕ) → t ≡ One → Permits t x → x ≡ 1
one_bit t x e p = subst (λ (t : Tri). Permits t x) e p

pub common_permits : (value : TriByte) (mask byte : ℕ) → Has value byte → Permits (common_tri value mask) (from_bool (has_common byte mask))
common_permits value mask byte has = elim (cases_Bool (some_one value mask)) [
  | inl one ↦
      let f = one_there value mask one in
      let some = common_at byte mask f.0 f.1.0 (one_bit (tri_at value f.0) (bit_at byte f.0) f.1.1.0 (has f.0 f.1.0)) f.1.1.1 in
      subst (λ (t : Tri). Permits t (from_bool (has_common byte mask))) (sym (by_tests value mask true (some_any value mask) one refl)) (ap from_bool some)
  | inr none ↦ elim (cases_Bool (some_any value mask)) [
    | inl any ↦ subst (λ (t : Tri). Permits t (from_bool (has_common byte mask))) (sym (by_tests value mask false true none any)) tt
    | inr known ↦
        let no_one = no_common byte mask (λ j lt at. zero_bit (tri_at value j) (bit_at byte j) (zero_there value mask j none known lt at) (has j lt)) in
        subst (λ (t : Tri). Permits t (from_bool (has_common byte mask))) (sym (by_tests value mask false false none known)) (ap from_bool no_one)
  ]
]

pub may_have_member : (value : TriByte) (mask byte : ℕ) → Has value byte → has_common byte mask ≡ true → may_have value mask ≡ true
unfolding may_have
may_have_member value mask byte has some =
    let f = common_bit byte mask some in
    let permitted = (tests_tell_members.bits (tri_at value f.0) 1).1 (subst (Permits (tri_at value f.0)) f.1.1.0 (has f.0 f.1.0)) in
    some_below 8 (λ j. permits (tri_at value j) 1 && (bit_at mask j == 1)) f.0 f.1.0
    (and_from (permits (tri_at value f.0) 1) (bit_at mask f.0 == 1) permitted (eq-eqb (bit_at mask f.0) 1 f.1.1.1))

pub may_have_more : (t u : TriByte) (mask : ℕ) → IsWithin t u → may_have t mask ≡ true → may_have u mask ≡ true
unfolding may_have
may_have_more t u mask within h =
    let f = tested (λ (t : Tri). permits t 1) t mask h in
    let permitted =
    (tests_tell_members.bits (tri_at u f.0) 1).1 ((bytes_are_sets.within t u).0 within f.0 f.1.0 1 ((tests_tell_members.bits (tri_at t f.0) 1).0 f.1.1.0)) in
    some_below 8 (λ j. permits (tri_at u j) 1 && (bit_at mask j == 1)) f.0 f.1.0
    (and_from (permits (tri_at u f.0) 1) (bit_at mask f.0 == 1) permitted (eq-eqb (bit_at mask f.0) 1 f.1.1.1))
