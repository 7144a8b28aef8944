-- Greater facts have greater rank.
use Rattle.std.proofs.Common.{◌≡◌, refl, sym, ap, ap₂, subst, ℕ, suc, ◌+◌, ◌-◌, ◌*◌, ◌<◌, ◌≤◌, max, min, ◌⊎◌, inl, inr, ⊎_elim, Bool, true, false, List, [], ◌∷◌, length, arith}
use Rattle.std.specs.Prelude.{◌==◌, nat_lt, if◌then◌else◌}
use Rattle.std.proofs.lemmas.Bool.{cases_lt}
use Rattle.pair_domain.specs.declared.intervals.Interval.{Interval}
use Rattle.pair_domain.specs.declared.tags.SumTag.{SumTag}
use Rattle.pair_domain.specs.declared.tags.SumTag.TheVariants as sum
use Rattle.pair_domain.specs.declared.tags.CompareTag.{CompareTag}
use Rattle.pair_domain.specs.declared.tags.CompareTag.TheVariants as compare
use Rattle.pair_domain.specs.declared.tags.ZeroTag.{ZeroTag}
use Rattle.pair_domain.specs.declared.tags.ZeroTag.TheVariants as zero
use Rattle.pair_domain.specs.declared.facts.PairFacts.{PairFacts}
use Rattle.pair_domain.specs.Intervals.{IsIntervalWithin, interval_join}
use Rattle.pair_domain.specs.Tags.{IsSumTagWithin, IsCompareWithin, IsZeroWithin, up_if, up_from, down_if, down_from, sum_join, is_same_compare, is_same_zero}
use Rattle.pair_domain.specs.Facts.{nothing, interval_at, AreFactsWithin, facts_join}
use Rattle.pair_domain.specs.Rank.{IntervalFits, EndsFit, SumFits, CompareFits, ZeroFits, FactsFit, interval_rank, sum_rank, compare_rank, zero_rank, intervals_rank, facts_rank, facts_height}
use Rattle.pair_domain.specs.Laws.{FactsRise}
use Rattle.pair_domain.proofs.Listed.{interval_at-join}
use Rattle.pair_domain.proofs.Ordered.{is_near}
use Rattle.pair_domain.proofs.Whole.{count_joined, interval_at-nothing}

-- equal, or of greater rank
abbrev Step : {X : Type 0} → (X → ℕ) → X → X → Type 0
Step rank a b = (a ≡ b) ⊎ (rank a < rank b)

both_step : {A B C : Type 0} (f : A → B → C) (ra : A → ℕ) (rb : B → ℕ) (rc : C → ℕ) → ((a : A) (b : B) → rc (f a b) ≡ ra a + rb b)
    → (a a' : A) (b b' : B) → Step ra a a' → Step rb b b' → Step rc (f a b) (f a' b')
both_step f ra rb rc is a a' b b' (inl e) (inl d) = inl (ap₂ f e d)
both_step f ra rb rc is a a' b b' (inl e) (inr lt) = inr (omega (arith, is a b, is a' b', ap ra e, lt))
both_step f ra rb rc is a a' b b' (inr lt) (inl e) = inr (omega (arith, is a b, is a' b', ap rb e, lt))
both_step f ra rb rc is a a' b b' (inr lt) (inr more) = inr (omega (arith, is a b, is a' b', lt, more))

-- the width of an interval
abbrev width : ℕ × ℕ → ℕ
width p = p.1 - p.0

ends_step : (l h l' h' : ℕ) → l ≤ h → l' ≤ l → h ≤ h' → Step width (l, h) (l', h')
ends_step l h l' h' ordered down up = by (cases_lt l' l) (cases_lt h h')
  where
    by : (l' < l) ⊎ (l ≤ l') → (h < h') ⊎ (h' ≤ h) → Step width (l, h) (l', h')
    by (inl lt) more = inr (omega arith)
    by (inr same) (inl lt) = inr (omega arith)
    by (inr same) (inr top) = let p : l ≡ l' = omega arith in let q : h ≡ h' = omega arith in inl (λ i. (p i, q i))

step_of : {X Y : Type 0} (f : X → Y) (rx : X → ℕ) (ry : Y → ℕ) → ((x : X) → ry (f x) ≡ rx x) → (a b : X) → Step rx a b → Step ry (f a) (f b)
step_of f rx ry is a b (inl e) = inl (ap f e)
step_of f rx ry is a b (inr lt) = inr (omega (arith, is a, is b, lt))

abbrev interval_of : ℕ × ℕ → Interval
interval_of p = record { low = p.0; high = p.1 }

interval_step : (i j : Interval) → IntervalFits i → IsIntervalWithin i j → Step interval_rank i j
interval_step i j fits le =
    step_of interval_of width interval_rank (λ p. refl) (i.low, i.high) (j.low, j.high) (ends_step i.low i.high j.low j.high fits.ordered le.low le.high)

sum_step : (t u : SumTag) → SumFits t → SumFits u → IsSumTagWithin t u → Step sum_rank t u
sum_step sum.None sum.None fits more le = inl refl
sum_step (sum.Up r a b) sum.None fits more le = inr (omega (arith, fits.near))
sum_step (sum.Down r a b) sum.None fits more le = inr (omega (arith, fits.near))
sum_step (sum.Up r a b) (sum.Up s c d) fits more le =
    let w = le more.near in
    ⊎_elim (λ e. inl (λ i. sum.Up (w.pair i) (e i).0 (e i).1)) (λ lt. inr lt) (ends_step a b c d fits.ordered w.low w.high)
sum_step (sum.Down r a b) (sum.Down s c d) fits more le =
    let w = le more.near in
    ⊎_elim (λ e. inl (λ i. sum.Down (w.pair i) (e i).0 (e i).1)) (λ lt. inr lt) (ends_step a b c d fits.ordered w.low w.high)
sum_step sum.None (sum.Up s c d) fits more le = absurd (le more.near)
sum_step sum.None (sum.Down s c d) fits more le = absurd (le more.near)
sum_step (sum.Up r a b) (sum.Down s c d) fits more le = absurd (le more.near)
sum_step (sum.Down r a b) (sum.Up s c d) fits more le = absurd (le more.near)

compare_step : (t u : CompareTag) → IsCompareWithin t u → Step compare_rank t u
compare_step compare.None compare.None le = inl refl
compare_step (compare.Byte x y) compare.None le = inr (omega arith)
compare_step (compare.Pair r y p) compare.None le = inr (omega arith)
compare_step t (compare.Byte x y) le = inl le
compare_step t (compare.Pair r y p) le = inl le

zero_step : (t u : ZeroTag) → IsZeroWithin t u → Step zero_rank t u
zero_step zero.None zero.None le = inl refl
zero_step (zero.Byte x) zero.None le = inr (omega arith)
zero_step (zero.Pair r) zero.None le = inr (omega arith)
zero_step t (zero.Byte x) le = inl le
zero_step t (zero.Pair r) le = inl le

list_step : (is js : List Interval) → length is ≡ length js → ((k : ℕ) → k < length is → Step interval_rank (interval_at is k) (interval_at js k))
    → Step intervals_rank is js
list_step [] [] n each = inl refl
list_step [] (j ∷ js) n each = absurd (omega arith)
list_step (i ∷ is) [] n each = absurd (omega arith)
list_step (i ∷ is) (j ∷ js) n each =
    both_step (λ (a : Interval) (rest : List Interval). a ∷ rest) interval_rank intervals_rank intervals_rank (λ a rest. refl) i j is js (each 0 (omega arith))
    (list_step is js (omega arith) (λ k lt. each (suc k) (omega arith)))

list_high : (is : List Interval) → ((k : ℕ) → k < length is → interval_rank (interval_at is k) ≤ 65535) → intervals_rank is ≤ length is * 65535
list_high [] high = omega arith
list_high (i ∷ is) high = omega (arith, high 0 (omega arith), list_high is (λ k lt. high (suc k) (omega arith)))

-- ---- facts

abbrev facts_of : (List Interval × SumTag) × CompareTag → ZeroTag → PairFacts
facts_of p z = record { intervals = p.0.0; sum = p.0.1; compare = p.1; zero = z }

facts_step : (f g : PairFacts) → FactsFit f → FactsFit g → AreFactsWithin f g → Step facts_rank f g
facts_step f g a b le =
    both_step facts_of (λ p. intervals_rank p.0.0 + sum_rank p.0.1 + compare_rank p.1) zero_rank facts_rank (λ p c. refl)
    ((f.intervals, f.sum), f.compare) ((g.intervals, g.sum), g.compare) f.zero g.zero
    (both_step (λ (p : List Interval × SumTag) (c : CompareTag). (p, c)) (λ p. intervals_rank p.0 + sum_rank p.1) compare_rank
    (λ p. intervals_rank p.0.0 + sum_rank p.0.1 + compare_rank p.1) (λ p c. refl) (f.intervals, f.sum) (g.intervals, g.sum) f.compare g.compare
    (both_step (λ (is : List Interval) (t : SumTag). (is, t)) intervals_rank sum_rank (λ p. intervals_rank p.0 + sum_rank p.1) (λ is t. refl)
    f.intervals g.intervals f.sum g.sum
    (list_step f.intervals g.intervals (omega (arith, a.count, b.count)) (λ k lt.
    interval_step _ _ (a.intervals k (omega (arith, a.count))) (le.intervals k (omega (arith, a.count)))))
    (sum_step f.sum g.sum a.sum b.sum le.sum))
    (compare_step f.compare g.compare le.compare))
    (zero_step f.zero g.zero le.zero)

sum_high : (t : SumTag) → SumFits t → sum_rank t ≤ 65535
sum_high sum.None fits = omega arith
sum_high (sum.Up r a b) fits = omega (arith, fits.near)
sum_high (sum.Down r a b) fits = omega (arith, fits.near)

compare_high : (t : CompareTag) → compare_rank t ≤ 1
compare_high compare.None = omega arith
compare_high (compare.Byte x y) = omega arith
compare_high (compare.Pair r y p) = omega arith

zero_high : (t : ZeroTag) → zero_rank t ≤ 1
zero_high zero.None = omega arith
zero_high (zero.Byte x) = omega arith
zero_high (zero.Pair r) = omega arith

facts_high : (f : PairFacts) → FactsFit f → facts_rank f ≤ facts_height
facts_high f a =
    omega (
      arith,
      list_high f.intervals (λ k lt. let fits = a.intervals k (omega (arith, a.count)) in omega (arith, fits.small)),
      sum_high f.sum a.sum,
      compare_high f.compare,
      zero_high f.zero,
      a.count,
    )

-- ---- what fits

interval_fits : (i j : Interval) → IntervalFits i → IntervalFits j → IntervalFits (interval_join i j)
interval_fits i j a b = record { ordered = omega (arith, a.ordered, b.ordered); small = omega (arith, a.small, b.small) }

chosen_sum : (test : Bool) (t : SumTag) → SumFits t → SumFits (if test then t else sum.None)
chosen_sum true t h = h
chosen_sum false t h = tt

ends_fit : (r a b c d : ℕ) → EndsFit r a b → d < 1048576 → max b d < min a c + 65535 → EndsFit r (min a c) (max b d)
ends_fit r a b c d h small near = record { pair = h.pair; ordered = omega (arith, h.ordered); near = near; small = omega (arith, h.small, small) }

up_fits : (test : Bool) (r a b : ℕ) → (test ≡ true → EndsFit r a b) → SumFits (up_if test r a b)
up_fits true r a b h = h refl
up_fits false r a b h = tt

down_fits : (test : Bool) (r a b : ℕ) → (test ≡ true → EndsFit r a b) → SumFits (down_if test r a b)
down_fits true r a b h = h refl
down_fits false r a b h = tt

sum_fits : (t u : SumTag) → SumFits t → SumFits u → SumFits (sum_join t u)
sum_fits (sum.Up r a b) (sum.Up s c d) h k =
    chosen_sum (r == s) (up_from r (min a c) (max b d))
    (up_fits (nat_lt (max b d) (min a c + 65535)) r (min a c) (max b d) (λ e. ends_fit r a b c d h k.small (is_near (min a c) (max b d) e)))
sum_fits (sum.Down r a b) (sum.Down s c d) h k =
    chosen_sum (r == s) (down_from r (min a c) (max b d))
    (down_fits (nat_lt (max b d) (min a c + 65535)) r (min a c) (max b d) (λ e. ends_fit r a b c d h k.small (is_near (min a c) (max b d) e)))
sum_fits sum.None u h k = tt
sum_fits (sum.Up r a b) sum.None h k = tt
sum_fits (sum.Up r a b) (sum.Down s c d) h k = tt
sum_fits (sum.Down r a b) sum.None h k = tt
sum_fits (sum.Down r a b) (sum.Up s c d) h k = tt

chosen_compare : (b : Bool) (t : CompareTag) → CompareFits t → CompareFits (if b then t else compare.None)
chosen_compare true t h = h
chosen_compare false t h = tt

chosen_zero : (b : Bool) (t : ZeroTag) → ZeroFits t → ZeroFits (if b then t else zero.None)
chosen_zero true t h = h
chosen_zero false t h = tt

joins_fit : (f g : PairFacts) → FactsFit f → FactsFit g → FactsFit (facts_join f g)
joins_fit f g a b = record {
  count = count_joined f g a.count b.count;
  intervals = λ n h.
      subst IntervalFits (sym (interval_at-join f.intervals g.intervals n (omega (arith, a.count)) (omega (arith, b.count))))
      (interval_fits (interval_at f.intervals n) (interval_at g.intervals n) (a.intervals n h) (b.intervals n h));
  sum = sum_fits f.sum g.sum a.sum b.sum;
  compare = chosen_compare (is_same_compare f.compare g.compare) f.compare a.compare;
  zero = chosen_zero (is_same_zero f.zero g.zero) f.zero a.zero;
}

nothing_fits : FactsFit nothing
nothing_fits = record {
  count = refl;
  intervals = λ n h. subst IntervalFits (sym (interval_at-nothing n h)) (record { ordered = omega arith; small = omega arith });
  sum = tt;
  compare = tt;
  zero = tt;
}

pub facts_rise : FactsRise
facts_rise = record { rises = facts_step; high = facts_high; joins_fit = joins_fit; nothing_fits = nothing_fits }
