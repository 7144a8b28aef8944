-- Enable bits that are among others, by their bits.
use Rattle.std.proofs.Common.{◌≡◌, ◌∙◌, sym, ap, refl, inl, inr, ℕ, zero, suc, ◌^◌, ◌<◌, ◌≤◌, arith, Bool, true, nat_le, eqb, eq-eqb, ne_eqb, bit_and}
use Rattle.std.specs.Int.{bit_at}
use Rattle.std.proofs.lemmas.Bool.{cases_Bool, cases_eq, and_parts, and_from, leb-true, le-leb}
use Rattle.std.proofs.lemmas.Nat.Bits.{bit_at_and, same_from_bits_below}
use Rattle.std.specs.Int.Bits.{and_lt}
use Rattle.std.proofs.Math.Nat.{min-le_right, min-eq_left}
use Rattle.avr_model.specs.Bits.{all_below}
use Rattle.avr_model.specs.Vectors.{are_among}

pub all_below_from : (n : ℕ) (p : ℕ → Bool) → ((k : ℕ) → k < n → p k ≡ true) → all_below n p ≡ true
unfolding all_below
all_below_from zero p h = refl
all_below_from (suc n) p h = and_from (all_below n p) (p n) (all_below_from n p (λ k lt. h k (omega arith))) (h n (omega arith))

pub all_below_at : (n : ℕ) (p : ℕ → Bool) (k : ℕ) → all_below n p ≡ true → k < n → p k ≡ true
unfolding all_below
all_below_at zero p k h lt = absurd (omega arith)
all_below_at (suc n) p k h lt =
    let parts = and_parts (all_below n p) (p n) h in
    elim (cases_eq k n) [
      | inl here ↦ ap p here ∙ parts.1
      | inr other ↦ all_below_at n p k parts.0 (omega arith)
    ]

pub among_from : (n m : ℕ) → ((k : ℕ) → k < 128 → bit_at n k ≤ bit_at m k) → are_among n m ≡ true
unfolding are_among
among_from n m h = all_below_from 128 (λ k. nat_le (bit_at n k) (bit_at m k)) (λ k lt. le-leb (bit_at n k) (bit_at m k) (h k lt))

pub among_at : (n m k : ℕ) → are_among n m ≡ true → k < 128 → bit_at n k ≤ bit_at m k
unfolding are_among
among_at n m k h lt = leb-true (bit_at n k) (bit_at m k) (all_below_at 128 (λ k. nat_le (bit_at n k) (bit_at m k)) k h lt)

kept_bit : (n m k : ℕ) → bit_and n m ≡ n → bit_at n k ≤ bit_at m k
kept_bit n m k same =
    let both = bit_at_and n m k in
    let kept = ap (λ (x : ℕ). bit_at x k) same in
    let most = min-le_right (bit_at n k) (bit_at m k) in
    omega arith

pub among_coded : (n m : ℕ) → n < 2 ^ 128 → m < 2 ^ 128 → eqb (bit_and n m) n ≡ are_among n m
among_coded n m small others =
    elim (cases_eq (bit_and n m) n) [
      | inl same ↦ eq-eqb (bit_and n m) n same ∙ sym (among_from n m (λ k lt. kept_bit n m k same))
      | inr other ↦
          elim (cases_Bool (are_among n m)) [
            | inl each ↦
                absurd (other (same_from_bits_below 128 (bit_and n m) n (and_lt 128 n m small others) small
                (λ k lt. bit_at_and n m k ∙ min-eq_left (among_at n m k each lt))))
            | inr none ↦ ne_eqb (bit_and n m) n other ∙ sym none
          ]
    ]
