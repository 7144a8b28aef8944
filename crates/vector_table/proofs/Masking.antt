-- Bits that two bytes have in common.
use Rattle.std.proofs.Common.{◌≡◌, ◌∙◌, sym, ap, ap₂, refl, inl, inr, ℕ, zero, suc, ◌/◌, ◌^◌, ◌<◌, ◌≤◌, ◌==◌, ◌&&◌, ◌||◌, not, min, arith, Bool, true, false, nat_eq, eq-eqb, ne_eqb, eqb-true, bit_and}
use Rattle.std.specs.Int.{bit_at}
use Rattle.std.specs.Int.Bits.{and_lt}
use Rattle.std.proofs.lemmas.Bool.{cases_Bool, cases_eq, and_parts}
use Rattle.std.proofs.lemmas.Bool.Decides.{nat_tests}
use Rattle.std.proofs.lemmas.Nat.Bits.{bit_at-lt, bit_at-zero, bit_at_and, bit_at_above, same_from_bits_below, shr_and_one}
use Rattle.avr_model.specs.Bits.{any_below}
use Rattle.avr_model.specs.Vectors.{has_common}
use Rattle.avr_model.proofs.AllLaws.{some_below, any_found}

-- ---- tests of some number below a bound

true_and_false : (t : Bool) → t ≡ true → t ≡ false → ⊥
true_and_false true a b = absurd (cc)
true_and_false false a b = absurd (cc)

pub none_at : (m : ℕ) (p : ℕ → Bool) (k : ℕ) → any_below m p ≡ false → k < m → p k ≡ false
none_at m p k none lt = elim (cases_Bool (p k)) [
  | inl here ↦ absurd (true_and_false (any_below m p) (some_below m p k lt here) none)
  | inr other ↦ other
]

-- tests that agree below the bound
pub any_same : (m : ℕ) (p q : ℕ → Bool) → ((k : ℕ) → k < m → p k ≡ q k) → any_below m p ≡ any_below m q
unfolding any_below
any_same zero p q h = refl
any_same (suc m) p q h = ap₂ (λ (a b : Bool). a || b) (any_same m p q (λ k lt. h k (omega arith))) (h m (omega arith))

-- ---- common bits

both_one : (x y : ℕ) → x ≡ 1 → y ≡ 1 → ((x == 1) && (y == 1)) ≡ true
both_one x y a b = grind (arith, nat_tests)

ones : (x y : ℕ) → ((x == 1) && (y == 1)) ≡ true → (x ≡ 1) × (y ≡ 1)
ones x y h = let parts = and_parts (x == 1) (y == 1) h in (eqb-true x 1 parts.0, eqb-true y 1 parts.1)

pub common_at : (a b k : ℕ) → k < 8 → bit_at a k ≡ 1 → bit_at b k ≡ 1 → has_common a b ≡ true
unfolding has_common
common_at a b k lt x y = some_below 8 (λ j. (bit_at a j == 1) && (bit_at b j == 1)) k lt (both_one (bit_at a k) (bit_at b k) x y)

pub common_bit : (a b : ℕ) → has_common a b ≡ true → (k : ℕ) × ((k < 8) × ((bit_at a k ≡ 1) × (bit_at b k ≡ 1)))
unfolding has_common
common_bit a b h = let f = any_found 8 (λ j. (bit_at a j == 1) && (bit_at b j == 1)) h in (f.0, (f.1, ones (bit_at a f.0) (bit_at b f.0) f.2))

less_one : (x y : ℕ) → x < 2 → y < 2 → (x ≡ 1 → y ≡ 1 → ⊥) → min x y ≡ 0
less_one x y a b apart = elim (cases_eq x 1) [
  | inl one ↦ elim (cases_eq y 1) [ inl too ↦ absurd (apart one too) | inr other ↦ omega arith ]
  | inr other ↦ omega arith
]

pub common_coded : (a b : ℕ) → a < 256 → b < 256 → not (nat_eq (bit_and a b) 0) ≡ has_common a b
common_coded a b small too = elim (cases_Bool (has_common a b)) [
  | inl some ↦
      let f = common_bit a b some in
      let both : bit_at (bit_and a b) f.0 ≡ 1 = bit_at_and a b f.0 ∙ ap₂ min f.1.1.0 f.1.1.1 in
      ap not (ne_eqb (bit_and a b) 0 (λ e. let none = sym both ∙ ap (λ (x : ℕ). bit_at x f.0) e ∙ bit_at-zero f.0 in absurd (omega arith))) ∙ sym some
  | inr none ↦
      let each : (k : ℕ) → k < 8 → bit_at (bit_and a b) k ≡ bit_at 0 k =
      λ k lt. bit_at_and a b k ∙ less_one (bit_at a k) (bit_at b k) (bit_at-lt a k) (bit_at-lt b k) (λ x y. true_and_false (has_common a b) (common_at a b k lt x y) none)
      ∙ sym (bit_at-zero k) in
      let is : bit_and a b ≡ 0 = same_from_bits_below 8 (bit_and a b) 0 (and_lt 8 a b small too) (omega arith) each in
      ap not (eq-eqb (bit_and a b) 0 is) ∙ sym none
]

-- ---- one bit

pub bit_coded : (n i : ℕ) → nat_eq (bit_and (n / 2 ^ i) 1) 1 ≡ (bit_at n i == 1)
bit_coded n i = ap (λ (x : ℕ). x == 1) (shr_and_one n i)

pub no_bit : (n i : ℕ) → n < 256 → 8 ≤ i → (bit_at n i == 1) ≡ false
no_bit n i small le = ne_eqb (bit_at n i) 1 (λ e. let none = bit_at_above n 8 i small le in absurd (omega arith))
