-- Enable bits that a byte through an unknown pointer may set, vector by vector.
use Rattle.std.proofs.Common.{◌≡◌, ◌∙◌, sym, ap, inl, inr, ℕ, ◌+◌, ◌-◌, ◌^◌, ◌<◌, ◌≤◌, arith, Bool, true, false, cond, eqb, ltb, eq-eqb, ne_eqb, ◌||◌, List, refl}
use Rattle.std.specs.Int.{bit_at, from_bool}
use Rattle.std.proofs.lemmas.Bool.{cases_order, cond_below, cond_above}
use Rattle.std.proofs.lemmas.Nat.Bits.{bit_at-lt, bit_at-zero}
use Rattle.avr_model.specs.declared.device.Device.{Device}
use Rattle.avr_model.specs.declared.assumption.Entry.{Entry}
use Rattle.avr_model.specs.Vectors.{enable_count, last_vector, with_enable}
use Rattle.node_keys.specs.Wakes.{may_wake, widened}
use Rattle.vector_table.proofs.AllLaws.{numbers_are_their_bits}

-- ---- bits that are turned, and bits that are widened

chosen_bit : (c : Bool) (x y : ℕ) → x < 2 → y < 2 → cond c x y < 2
chosen_bit true x y h g = h
chosen_bit false x y h g = g

from_bool_small : (on : Bool) → from_bool on < 2
from_bool_small true = omega arith
from_bool_small false = omega arith

pub turned_bit : (d : Device) (m v : ℕ) (on : Bool) (k : ℕ) → k < enable_count d → bit_at (with_enable d m v on) k ≡ cond (eqb (k + 2) v) (from_bool on) (bit_at m k)
turned_bit d m v on k lt =
    numbers_are_their_bits.bits (enable_count d) (λ j. cond (eqb (j + 2) v) (from_bool on) (bit_at m j))
    (λ j below. chosen_bit (eqb (j + 2) v) (from_bool on) (bit_at m j) (from_bool_small on) (bit_at-lt m j)) k lt

turned_there : (d : Device) (m v : ℕ) (on : Bool) (k : ℕ) → k < enable_count d → k + 2 ≡ v → bit_at (with_enable d m v on) k ≡ from_bool on
turned_there d m v on k lt e = turned_bit d m v on k lt ∙ (λ i. cond (eq-eqb (k + 2) v e i) (from_bool on) (bit_at m k))

turned_else : (d : Device) (m v : ℕ) (on : Bool) (k : ℕ) → k < enable_count d → (k + 2 ≡ v → ⊥) → bit_at (with_enable d m v on) k ≡ bit_at m k
turned_else d m v on k lt other = turned_bit d m v on k lt ∙ (λ i. cond (ne_eqb (k + 2) v other i) (from_bool on) (bit_at m k))

abbrev pub wide_bit : Device → List Entry → ℕ → ℕ → ℕ
wide_bit d A m k = cond (may_wake d A (k + 2)) 1 (bit_at m k)

wide_small : (d : Device) (A : List Entry) (m k : ℕ) → wide_bit d A m k < 2
wide_small d A m k = chosen_bit (may_wake d A (k + 2)) 1 (bit_at m k) (omega arith) (bit_at-lt m k)

pub widened_small : (d : Device) (A : List Entry) (m : ℕ) → widened d A m < 2 ^ enable_count d
unfolding widened
widened_small d A m = numbers_are_their_bits.below (enable_count d) (wide_bit d A m) (λ k lt. wide_small d A m k)

pub widened_bit : (d : Device) (A : List Entry) (m k : ℕ) → k < enable_count d → bit_at (widened d A m) k ≡ wide_bit d A m k
unfolding widened
widened_bit d A m k lt = numbers_are_their_bits.bits (enable_count d) (wide_bit d A m) (λ k lt. wide_small d A m k) k lt

-- ---- the loop of `widened`

-- the bits of the vectors below v are widened
abbrev pub AreWide : Device → List Entry → ℕ → ℕ → ℕ → Type 0
AreWide d A m v b = (j : ℕ) → j < enable_count d → bit_at b j ≡ cond (ltb (j + 2) v) (wide_bit d A m j) 0

pub first_bits : (d : Device) (A : List Entry) (m b : ℕ) → b ≡ 0 → AreWide d A m 2 b
first_bits d A m b is j lt = cond_above (j + 2) 2 (wide_bit d A m j) 0 (bit_at b j) (omega arith) (ap (λ (n : ℕ). bit_at n j) is ∙ bit_at-zero j)

pub is_wide : (d : Device) (A : List Entry) (m v : ℕ) (a b : Bool) → a ≡ may_wake d A v → from_bool b ≡ bit_at m (v - 2) → from_bool (a || b) ≡ cond (may_wake d A v) 1 (bit_at m (v - 2))
is_wide d A m v a b is bit = by a is
  where
    by : (a : Bool) → a ≡ may_wake d A v → from_bool (a || b) ≡ cond (may_wake d A v) 1 (bit_at m (v - 2))
    by true e = λ i. cond (e i) 1 (bit_at m (v - 2))
    by false e = bit ∙ (λ i. cond (e i) 1 (bit_at m (v - 2)))

next_bits : (d : Device) (A : List Entry) (m b v b' : ℕ) → AreWide d A m v b
    → ((j : ℕ) → j < enable_count d → (j + 2 ≡ v → ⊥) → bit_at b' j ≡ bit_at b j)
    → ((j : ℕ) → j < enable_count d → j + 2 ≡ v → bit_at b' j ≡ wide_bit d A m j)
    → AreWide d A m (v + 1) b'
next_bits d A m b v b' before others there j lt =
    elim (cases_order (j + 2) v) [
      | inl same ↦ there j lt same ∙ cond_below (j + 2) (v + 1) (wide_bit d A m j) 0 (omega arith)
      | inr (inl below) ↦
          others j lt (λ e. omega arith) ∙ before j lt ∙ sym (cond_below (j + 2) v (wide_bit d A m j) 0 below)
          ∙ cond_below (j + 2) (v + 1) (wide_bit d A m j) 0 (omega arith)
      | inr (inr above) ↦
          others j lt (λ e. omega arith) ∙ before j lt ∙ sym (cond_above (j + 2) v (wide_bit d A m j) 0 0 (omega arith) refl)
          ∙ cond_above (j + 2) (v + 1) (wide_bit d A m j) 0 0 (omega arith) refl
    ]

at_vector : (d : Device) (A : List Entry) (m v j x : ℕ) → j + 2 ≡ v → x ≡ cond (may_wake d A v) 1 (bit_at m (v - 2)) → x ≡ wide_bit d A m j
at_vector d A m v j x e is =
    let place : v - 2 ≡ j = omega arith in
    is ∙ (λ i. cond (may_wake d A (sym e i)) 1 (bit_at m (place i)))

pub next_on : (d : Device) (A : List Entry) (m b v b' : ℕ) (on : Bool) → on ≡ true → from_bool on ≡ cond (may_wake d A v) 1 (bit_at m (v - 2))
    → b' ≡ with_enable d b v true → AreWide d A m v b → AreWide d A m (v + 1) b'
next_on d A m b v b' on is wide turned before =
    next_bits d A m b v b' before (λ j lt other. ap (λ (n : ℕ). bit_at n j) turned ∙ turned_else d b v true j lt other)
    (λ j lt e. ap (λ (n : ℕ). bit_at n j) turned ∙ turned_there d b v true j lt e ∙ at_vector d A m v j 1 e (sym (ap from_bool is) ∙ wide))

pub next_off : (d : Device) (A : List Entry) (m b v : ℕ) (on : Bool) → on ≡ false → from_bool on ≡ cond (may_wake d A v) 1 (bit_at m (v - 2))
    → AreWide d A m v b → AreWide d A m (v + 1) b
next_off d A m b v on is wide before =
    next_bits d A m b v b before (λ j lt other. refl)
    (λ j lt e.
    before j lt ∙ sym (cond_above (j + 2) v (wide_bit d A m j) 0 0 (omega arith) refl) ∙ at_vector d A m v j 0 e (sym (ap from_bool is) ∙ wide))

pub all_bits : (d : Device) (A : List Entry) (m b v : ℕ) → b < 2 ^ enable_count d → last_vector d + 1 ≤ v → AreWide d A m v b → b ≡ widened d A m
unfolding widened
all_bits d A m b v small le bits =
    numbers_are_their_bits.same (enable_count d) b (wide_bit d A m) small
    (λ j lt. bits j lt ∙ sym (cond_below (j + 2) v (wide_bit d A m j) 0 (omega arith)))
