-- The hulls of all register pairs, by number.
use Rattle.std.proofs.Common.{◌≡◌, sym, ◌∙◌, ap₂, subst, ℕ, ◌+◌, ◌*◌, ◌<◌, ◌≤◌, List, length, length-set, get_or, slice_set, arith}
use Rattle.std.proofs.lemmas.List.{get_or_default}
use Rattle.std.proofs.lemmas.List.Edits.{fill_by_more}
use Rattle.std.proofs.lemmas.List.FromFn.{length-map-range_with_len, get_or-map-range_with_len, fill_by_all}
use Rattle.bit_domain.proofs.AllLaws.{ranges_fit}
use Rattle.pair_domain.specs.declared.intervals.Interval.{Interval}
use Rattle.pair_domain.specs.Intervals.{whole, hull}
use Rattle.pair_domain.specs.Facts.{interval_at}
use Rattle.pair_domain.specs.Rank.{IntervalFits}
use Rattle.abs_state.specs.declared.values.AbsByte.{AbsByte}
use Rattle.abs_state.specs.Values.{unknown, value_at, set_of}
use Rattle.abs_state.specs.Formed.{ByteFits}
use Rattle.abs_state.specs.Ended.{hull_at}
use Rattle.certificate.specs.Hulls.{hulls_of}

pub hull_here : (registers : List AbsByte) (n : ℕ) → n < 16 → interval_at (hulls_of registers) n ≡ hull_at registers n
unfolding hulls_of
hull_here registers n h = get_or-map-range_with_len (hull_at registers) 0 16 n n whole h (omega arith)

pub count_hulls : (registers : List AbsByte) → length (hulls_of registers) ≡ 16
unfolding hulls_of
count_hulls registers = length-map-range_with_len (hull_at registers) 0 16

pub hull_fits : (registers : List AbsByte) (n : ℕ) → n < 16 → ((r : ℕ) → r < 32 → ByteFits (value_at registers r)) → IntervalFits (interval_at (hulls_of registers) n)
hull_fits registers n h each = subst IntervalFits (sym (hull_here registers n h)) here
  where
    here : IntervalFits (hull_at registers n)
    here =
        let lo = each (2 * n) (omega (arith, h)) in
        let hi = each (2 * n + 1) (omega (arith, h)) in
        record {
          ordered = omega (arith, lo.ordered, hi.ordered);
          small = omega (arith, lo.high, hi.high, ranges_fit.most (value_at registers (2 * n)).bits, ranges_fit.most (value_at registers (2 * n + 1)).bits);
        }

-- the first hulls are written
pub record AreFirst (registers : List AbsByte) (hulls : List Interval) (n : ℕ) : Type 0 where
  pub count : length hulls ≡ 16
  pub done : (k : ℕ) → k < n → get_or hulls k whole ≡ hull_at registers k

-- one more hull, of two registers as they are read
pub one_more : (registers : List AbsByte) (hulls : List Interval) (n : ℕ) (lo hi : AbsByte) (i : Interval) → 2 * n + 1 < length registers → n < length hulls
    → i ≡ hull (set_of (get_or registers (2 * n) lo)) (set_of (get_or registers (2 * n + 1) hi)) → AreFirst registers hulls n
    → AreFirst registers (slice_set hulls n i) (n + 1)
one_more registers hulls n lo hi i inside there is h = record {
  count = length-set hulls n i ∙ h.count;
  done = subst (λ (j : Interval). (k : ℕ) → k < n + 1 → get_or (slice_set hulls n j) k whole ≡ hull_at registers k) (sym same)
      (fill_by_more (hull_at registers) hulls n whole there h.done);
}
  where
    same : i ≡ hull_at registers n
    same = is ∙ ap₂ (λ (v w : AbsByte). hull (set_of v) (set_of w)) (get_or_default registers (2 * n) lo unknown (omega (arith, inside))) (get_or_default registers (2 * n + 1) hi unknown inside)

pub all_first : (registers : List AbsByte) (hulls : List Interval) (n : ℕ) → 16 ≤ n → AreFirst registers hulls n → hulls ≡ hulls_of registers
unfolding hulls_of
all_first registers hulls n over h = fill_by_all (hull_at registers) hulls 16 whole h.count (λ k lt. h.done k (omega (arith, lt, over)))
