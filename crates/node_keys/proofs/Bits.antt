-- Numbers with one more bit.
use Rattle.std.proofs.Common.{◌≡◌, ◌∙◌, sym, ap, inl, inr, ℕ, suc, ◌+◌, ◌-◌, ◌*◌, ◌^◌, ◌%◌, ◌/◌, ◌<◌, ◌≤◌, arith, true, cond, eqb, eq-eqb, ne_eqb, bit_or}
use Rattle.std.specs.Int.{bit_at}
use Rattle.std.proofs.lemmas.Bool.{cases_eq}
use Rattle.std.proofs.lemmas.Nat.{or_lt, pow_below, or_disjoint, mod-pow-add, div-add-mod'}
use Rattle.std.proofs.lemmas.Nat.Bits.{bit_at-lt, bit_at_cat_high, bit_at_lowest, bit_at_or, bit_at-pow_same, bit_at-pow_other, and_pow}
use Rattle.std.proofs.Math.Numerals.{one-add}
use Rattle.avr_model.specs.declared.device.Device.{Device}
use Rattle.avr_model.specs.Vectors.{enable_count, with_enable}
use Rattle.vector_table.proofs.AllLaws.{numbers_are_their_bits}

-- setting a bit that is clear adds its weight
pub enabled_is_sum : (d : Device) (x k : ℕ) → x < 2 ^ enable_count d → k < enable_count d → bit_at x k ≡ 0 → with_enable d x (k + 2) true ≡ 2 ^ k + x
enabled_is_sum d x k small lt none =
    let sum : bit_or x (2 ^ k) ≡ 2 ^ k + x = or_disjoint x (2 ^ k) (and_pow x k ∙ ap (λ (b : ℕ). b * 2 ^ k) none ∙ omega arith) ∙ omega arith in
    let bit : (j : ℕ) → j < enable_count d → bit_at (bit_or x (2 ^ k)) j ≡ cond (eqb (j + 2) (k + 2)) 1 (bit_at x j) = λ j below.
    bit_at_or x (2 ^ k) j ∙ elim (cases_eq j k) [
      | inl same ↦
          let two : j + 2 ≡ k + 2 = omega arith in
          let one : bit_at (2 ^ k) j ≡ 1 = ap (bit_at (2 ^ k)) same ∙ bit_at-pow_same k in
          rw (eq-eqb (j + 2) (k + 2) two) (omega (arith, bit_at-lt x j))
      | inr other ↦
          let two : j + 2 ≡ k + 2 → ⊥ = λ e. other (omega arith) in
          rw (ne_eqb (j + 2) (k + 2) two) (omega (arith, bit_at-pow_other k j other))
    ] in
    sym (numbers_are_their_bits.same (enable_count d) (bit_or x (2 ^ k)) (λ j. cond (eqb (j + 2) (k + 2)) 1 (bit_at x j)) (or_lt (enable_count d) x (2 ^ k) small (pow_below k (enable_count d) lt)) bit) ∙ sum

-- ---- the bits from k on

abbrev pub from_bit : ℕ → ℕ → ℕ
from_bit b k = b - b % 2 ^ k

pub from_next : (b k : ℕ) → from_bit b k ≡ bit_at b k * 2 ^ k + from_bit b (suc k)
from_next b k =
    let split : b % 2 ^ suc k ≡ bit_at b k * 2 ^ k + b % 2 ^ k = ap (λ (n : ℕ). b % 2 ^ n) (sym (one-add k)) ∙ mod-pow-add b 1 k in
    let le : b % 2 ^ suc k ≤ b = omega arith in
    omega arith

pub from_bit_is : (b k : ℕ) → from_bit b k ≡ (b / 2 ^ k) * 2 ^ k
from_bit_is b k = let whole = div-add-mod' b (2 ^ k) in omega arith

pub bit_of_sum : (b k n : ℕ) → n < 2 ^ k → bit_at (from_bit b k + n) k ≡ bit_at b k
bit_of_sum b k n lt =
    let none : k - k ≡ 0 = omega arith in
    ap (λ (x : ℕ). bit_at (x + n) k) (from_bit_is b k) ∙ bit_at_cat_high (b / 2 ^ k) k n k lt (omega arith)
    ∙ ap (bit_at (b / 2 ^ k)) none ∙ bit_at_lowest (b / 2 ^ k)
