-- A byte cut to numbers beyond 255.
use Rattle.std.proofs.Common.{◌≡◌, ◌∙◌, ap, ℕ, ◌%◌, ◌<◌, max, min, Bool, true, false, None, arith}
use Rattle.std.specs.Prelude.{◌==◌, if◌then◌else◌}
use Rattle.bit_domain.specs.Ranges.{ByteSet}
use Rattle.pair_domain.specs.Narrow.{narrow, narrowed}
use Rattle.pair_domain.specs.PairSets.{PairSet, with_low, with_high, narrow_low, narrow_high}
use Rattle.pair_domain.proofs.AllLaws.{narrowing_cuts}
use Rattle.pair_cuts.specs.Places.{on_byte}

-- a high end beyond 255 cuts like 255
pub narrow_capped : (b : ByteSet) (low high : ℕ) → b.high < 256 → narrow b low high ≡ narrow b low (min high 255)
narrow_capped b low high small = ap (λ (h : ℕ). narrowed b (max b.low low) h) (omega (arith, small))

-- beyond 255 nothing is left
narrow_far : (b : ByteSet) (low high : ℕ) → b.high < 256 → 255 < low → narrow b low high ≡ None
narrow_far b low high small far =
    narrow_capped b low high small ∙ (narrowing_cuts.none b low (min high 255) (omega arith)).1 (λ x h down up. omega (arith, down, up, far))

module _ (p : PairSet) (low high : ℕ) (small : p.low.high < 256) (small' : p.high.high < 256) where
  far_by : (even : Bool) → 255 < low → (if even then with_low p (narrow p.low low high) else with_high p (narrow p.high low high)) ≡ None
  far_by true far = ap (with_low p) (narrow_far p.low low high small far)
  far_by false far = ap (with_high p) (narrow_far p.high low high small' far)

  pub far_byte : (r : ℕ) → 255 < low → on_byte r (λ b. narrow b low high) p ≡ None
  far_byte r far = far_by (r % 2 == 0) far

  pub low_byte : (r : ℕ) → (r % 2 == 0) ≡ true → on_byte r (λ b. narrow b low high) p ≡ narrow_low p low (min high 255)
  low_byte r e =
      ap (λ (t : Bool). if t then with_low p (narrow p.low low high) else with_high p (narrow p.high low high)) e ∙ ap (with_low p) (narrow_capped p.low low high small)

  pub high_byte : (r : ℕ) → (r % 2 == 0) ≡ false → on_byte r (λ b. narrow b low high) p ≡ narrow_high p low (min high 255)
  high_byte r e =
      ap (λ (t : Bool). if t then with_low p (narrow p.low low high) else with_high p (narrow p.high low high)) e ∙ ap (with_high p) (narrow_capped p.high low high small')
