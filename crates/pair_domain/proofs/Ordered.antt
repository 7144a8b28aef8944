-- Order, join and meet of intervals and of flag tags.
use Rattle.std.proofs.Common.{◌≡◌, refl, sym, ◌∙◌, subst, ℕ, ◌+◌, ◌<◌, ◌≤◌, ◌⊎◌, inl, inr, ⊎_elim, max, min, arith, Bool, true, false, Some, None, List}
use Rattle.std.specs.Prelude.{◌==◌, nat_le, nat_lt, if◌then◌else◌}
use Rattle.std.specs.Int.{from_bool}
use Rattle.std.proofs.lemmas.Bool.{eqb-true, eq-eqb, false≢true, cases_lt}
use Rattle.std.proofs.lemmas.Bool.Decides.{nat_tests}
use Rattle.pair_domain.specs.declared.intervals.Interval.{Interval}
use Rattle.pair_domain.specs.declared.tags.SumTag.{SumTag}
use Rattle.pair_domain.specs.declared.tags.SumTag.TheVariants as sum
use Rattle.pair_domain.specs.declared.tags.CompareTag.{CompareTag}
use Rattle.pair_domain.specs.declared.tags.CompareTag.TheVariants as compare
use Rattle.pair_domain.specs.declared.tags.ZeroTag.{ZeroTag}
use Rattle.pair_domain.specs.declared.tags.ZeroTag.TheVariants as zero
use Rattle.pair_domain.specs.Intervals.{InInterval, IsIntervalWithin, interval_if, interval_meet}
use Rattle.pair_domain.specs.Tags.{pair_number, LiesUp, LiesDown, AreNear, SumHolds, CompareHolds, ZeroHolds, AreEndsWithin, IsSumTagWithin, IsCompareWithin, IsZeroWithin, IsNear, up_if, up_from, down_if, down_from, sum_join}
use Rattle.pair_domain.specs.Laws.{IntervalsAreOrdered, IntervalsMeet, HullsHold, SumsAreOrdered, ComparesAreOrdered, ZerosAreOrdered}

-- ---- intervals

interval_both : (i j : Interval) → IsIntervalWithin i j → IsIntervalWithin j i → i ≡ j
interval_both i j a b =
    let low : i.low ≡ j.low = omega (arith, a.low, b.low) in
    let high : i.high ≡ j.high = omega (arith, a.high, b.high) in
    λ k. record { low = low k; high = high k }

pub intervals_are_ordered : IntervalsAreOrdered
intervals_are_ordered = record {
  same = λ i. record { low = omega arith; high = omega arith };
  through = λ i j k a b. record { low = omega (arith, a.low, b.low); high = omega (arith, a.high, b.high) };
  both = interval_both;
  first = λ i j. record { low = omega arith; high = omega arith };
  second = λ i j. record { low = omega arith; high = omega arith };
  least = λ i j k a b. record { low = omega (arith, a.low, b.low); high = omega (arith, a.high, b.high) };
  top = λ i small. record { low = omega arith; high = omega (arith, small) };
}

made : (test : Bool) (lo hi : ℕ) → test ≡ true → interval_if test lo hi ≡ Some (record { low = lo; high = hi })
made true lo hi e = refl
made false lo hi e = absurd (cc)

unmade : (test : Bool) (lo hi : ℕ) (m : Interval) → interval_if test lo hi ≡ Some m → (test ≡ true) × (record { low = lo; high = hi } ≡ m)
unmade true lo hi m e = (refl, cc)
unmade false lo hi m e = absurd (cc)

empty_if : (test : Bool) (lo hi : ℕ) → interval_if test lo hi ≡ None → test ≡ false
empty_if true lo hi e = absurd (cc)
empty_if false lo hi e = refl

-- the interval from low to high exists
pub there : (lo hi : ℕ) → lo ≤ hi → interval_if (nat_le lo hi) lo hi ≡ Some (record { low = lo; high = hi })
there lo hi le = let test : nat_le lo hi ≡ true = grind (arith, nat_tests, le) in made (nat_le lo hi) lo hi test

pub record IsFrom (lo hi : ℕ) (m : Interval) : Type 0 where
  pub low : m.low ≡ lo
  pub high : m.high ≡ hi
  pub ordered : m.low ≤ m.high

pub is_from : (lo hi : ℕ) (m : Interval) → interval_if (nat_le lo hi) lo hi ≡ Some m → IsFrom lo hi m
is_from lo hi m e =
    let was = unmade (nat_le lo hi) lo hi m e in
    let le : lo ≤ hi = grind (arith, nat_tests, was.0) in
    subst (IsFrom lo hi) was.1 (record { low = refl; high = refl; ordered = le })

meets : (i j : Interval) (x : ℕ) → InInterval i x → InInterval j x → (m : Interval) × ((interval_meet i j ≡ Some m) × InInterval m x)
meets i j x a b =
    let lo = max i.low j.low in
    let hi = min i.high j.high in
    let down : lo ≤ x = omega (arith, a.low, b.low) in
    let up : x ≤ hi = omega (arith, a.high, b.high) in
    (record { low = lo; high = hi }, (there lo hi (omega (arith, down, up)), record { low = down; high = up }))

more : (i j i' j' m : Interval) → IsIntervalWithin i i' → IsIntervalWithin j j' → interval_meet i j ≡ Some m
    → (m' : Interval) × ((interval_meet i' j' ≡ Some m') × IsIntervalWithin m m')
more i j i' j' m a b e =
    let is = is_from (max i.low j.low) (min i.high j.high) m e in
    let lo = max i'.low j'.low in
    let hi = min i'.high j'.high in
    let down : lo ≤ m.low = omega (arith, a.low, b.low, is.low) in
    let up : m.high ≤ hi = omega (arith, a.high, b.high, is.high) in
    (record { low = lo; high = hi }, (there lo hi (omega (arith, down, up, is.ordered)), record { low = down; high = up }))

none_empty : (i j : Interval) → interval_meet i j ≡ None → (x : ℕ) → InInterval i x → InInterval j x → ⊥
none_empty i j e x a b = let m = meets i j x a b in let no : None ≡ Some m.0 = cc in absurd (cc)

empty_none : (i j : Interval) → i.low ≤ i.high → j.low ≤ j.high → ((x : ℕ) → InInterval i x → InInterval j x → ⊥) → interval_meet i j ≡ None
empty_none i j p q none = by (nat_le (max i.low j.low) (min i.high j.high)) refl
  where
    by : (test : Bool) → nat_le (max i.low j.low) (min i.high j.high) ≡ test → interval_if test (max i.low j.low) (min i.high j.high) ≡ None
    by false e = refl
    by true e =
        let le : max i.low j.low ≤ min i.high j.high = grind (arith, nat_tests, e) in
        absurd (none (max i.low j.low) (record { low = omega arith; high = omega (arith, le) }) (record { low = omega arith; high = omega (arith, le) }))

pub intervals_meet : IntervalsMeet
intervals_meet = record {
  meets = meets;
  under = λ i j m e.
      let is = is_from (max i.low j.low) (min i.high j.high) m e in
      (record { low = omega (arith, is.low); high = omega (arith, is.high) }, record { low = omega (arith, is.low); high = omega (arith, is.high) });
  ordered = λ i j m e. let is = is_from (max i.low j.low) (min i.high j.high) m e in is.ordered;
  more = more;
  none = λ i j p q. (none_empty i j, empty_none i j p q);
}

pub hulls_hold : HullsHold
hulls_hold = record {
  holds = λ lo hi x y a b. record { low = omega (arith, a.low, b.low); high = omega (arith, a.high, b.high) };
  more = λ lo hi lo' hi' a b. record { low = omega (arith, a.low, b.low); high = omega (arith, a.high, b.high) };
}

-- ---- tags of flags

-- a tag is kept if the test of its ends holds
up_above : (test : Bool) (r a b c d : ℕ) → c ≤ a → b ≤ d → IsSumTagWithin (sum.Up r a b) (up_if test r c d)
up_above true r a b c d low high = λ near. record { pair = refl; low = low; high = high }
up_above false r a b c d low high = tt

down_above : (test : Bool) (r a b c d : ℕ) → c ≤ a → b ≤ d → IsSumTagWithin (sum.Down r a b) (down_if test r c d)
down_above true r a b c d low high = λ near. record { pair = refl; low = low; high = high }
down_above false r a b c d low high = tt

up_near : (test : Bool) (r a b : ℕ) → (test ≡ true → b < a + 65535) → IsNear (up_if test r a b)
up_near true r a b near = near refl
up_near false r a b near = tt

down_near : (test : Bool) (r a b : ℕ) → (test ≡ true → b < a + 65535) → IsNear (down_if test r a b)
down_near true r a b near = near refl
down_near false r a b near = tt

-- ends within kept ones are kept, by the test
up_below : (test : Bool) (r a b c d : ℕ) → (test ≡ false → a + 65535 ≤ b) → c ≤ a → b ≤ d → d < c + 65535 → IsSumTagWithin (up_if test r a b) (sum.Up r c d)
up_below true r a b c d wide low high near = λ again. record { pair = refl; low = low; high = high }
up_below false r a b c d wide low high near = absurd (omega (arith, wide refl, low, high, near))

down_below : (test : Bool) (r a b c d : ℕ) → (test ≡ false → a + 65535 ≤ b) → c ≤ a → b ≤ d → d < c + 65535 → IsSumTagWithin (down_if test r a b) (sum.Down r c d)
down_below true r a b c d wide low high near = λ again. record { pair = refl; low = low; high = high }
down_below false r a b c d wide low high near = absurd (omega (arith, wide refl, low, high, near))

pub is_near : (a b : ℕ) → nat_lt b (a + 65535) ≡ true → b < a + 65535
is_near a b e = grind (arith, nat_tests, e)

is_wide : (a b : ℕ) → nat_lt b (a + 65535) ≡ false → a + 65535 ≤ b
is_wide a b e = grind (arith, nat_tests, e)

sum_same : (t : SumTag) → IsSumTagWithin t t
sum_same sum.None = tt
sum_same (sum.Up r a b) = λ near. record { pair = refl; low = omega arith; high = omega arith }
sum_same (sum.Down r a b) = λ near. record { pair = refl; low = omega arith; high = omega arith }

-- ends within kept ones are kept
still_near : (r a b s c d : ℕ) → AreEndsWithin r a b s c d → AreNear c d → AreNear a b
still_near r a b s c d le near = omega (arith, le.low, le.high, near)

ends_through : (r a b s c d k l h : ℕ) → AreEndsWithin r a b s c d → AreEndsWithin s c d k l h → AreEndsWithin r a b k l h
ends_through r a b s c d k l h p q = record { pair = p.pair ∙ q.pair; low = omega (arith, p.low, q.low); high = omega (arith, p.high, q.high) }

sum_through : (t u v : SumTag) → IsSumTagWithin t u → IsSumTagWithin u v → IsSumTagWithin t v
sum_through t u sum.None p q = tt
sum_through sum.None sum.None (sum.Up k l h) p q = q
sum_through (sum.Up r a b) sum.None (sum.Up k l h) p q = λ near. absurd (q near)
sum_through (sum.Down r a b) sum.None (sum.Up k l h) p q = λ near. absurd (q near)
sum_through sum.None (sum.Down s c d) (sum.Up k l h) p q = q
sum_through (sum.Up r a b) (sum.Down s c d) (sum.Up k l h) p q = λ near. absurd (q near)
sum_through (sum.Down r a b) (sum.Down s c d) (sum.Up k l h) p q = q
sum_through sum.None (sum.Up s c d) (sum.Up k l h) p q = λ near. p (still_near s c d k l h (q near) near)
sum_through (sum.Down r a b) (sum.Up s c d) (sum.Up k l h) p q = λ near. p (still_near s c d k l h (q near) near)
sum_through (sum.Up r a b) (sum.Up s c d) (sum.Up k l h) p q = λ near. ends_through r a b s c d k l h (p (still_near s c d k l h (q near) near)) (q near)
sum_through sum.None sum.None (sum.Down k l h) p q = q
sum_through (sum.Up r a b) sum.None (sum.Down k l h) p q = λ near. absurd (q near)
sum_through (sum.Down r a b) sum.None (sum.Down k l h) p q = λ near. absurd (q near)
sum_through sum.None (sum.Up s c d) (sum.Down k l h) p q = q
sum_through (sum.Up r a b) (sum.Up s c d) (sum.Down k l h) p q = q
sum_through (sum.Down r a b) (sum.Up s c d) (sum.Down k l h) p q = λ near. absurd (q near)
sum_through sum.None (sum.Down s c d) (sum.Down k l h) p q = λ near. p (still_near s c d k l h (q near) near)
sum_through (sum.Up r a b) (sum.Down s c d) (sum.Down k l h) p q = λ near. p (still_near s c d k l h (q near) near)
sum_through (sum.Down r a b) (sum.Down s c d) (sum.Down k l h) p q = λ near. ends_through r a b s c d k l h (p (still_near s c d k l h (q near) near)) (q near)

sum_both : (t u : SumTag) → IsNear t → IsNear u → IsSumTagWithin t u → IsSumTagWithin u t → t ≡ u
sum_both sum.None sum.None m n p q = refl
sum_both sum.None (sum.Up s c d) m n p q = absurd (p n)
sum_both sum.None (sum.Down s c d) m n p q = absurd (p n)
sum_both (sum.Up r a b) sum.None m n p q = absurd (q m)
sum_both (sum.Down r a b) sum.None m n p q = absurd (q m)
sum_both (sum.Up r a b) (sum.Down s c d) m n p q = absurd (p n)
sum_both (sum.Down r a b) (sum.Up s c d) m n p q = absurd (p n)
sum_both (sum.Up r a b) (sum.Up s c d) m n p q =
    let x = p n in
    let y = q m in
    let low : a ≡ c = omega (arith, x.low, y.low) in
    let high : b ≡ d = omega (arith, x.high, y.high) in
    λ i. sum.Up (x.pair i) (low i) (high i)
sum_both (sum.Down r a b) (sum.Down s c d) m n p q =
    let x = p n in
    let y = q m in
    let low : a ≡ c = omega (arith, x.low, y.low) in
    let high : b ≡ d = omega (arith, x.high, y.high) in
    λ i. sum.Down (x.pair i) (low i) (high i)

-- tags of one kind, by the test of their pairs
by_up : (test : Bool) (r a b s c d : ℕ) → (test ≡ true → r ≡ s) → IsSumTagWithin (sum.Up r a b) (if test then up_from r (min a c) (max b d) else sum.None)
by_up true r a b s c d same = up_above (nat_lt (max b d) (min a c + 65535)) r a b (min a c) (max b d) (omega arith) (omega arith)
by_up false r a b s c d same = tt

by_down : (test : Bool) (r a b s c d : ℕ) → (test ≡ true → r ≡ s) → IsSumTagWithin (sum.Down r a b) (if test then down_from r (min a c) (max b d) else sum.None)
by_down true r a b s c d same = down_above (nat_lt (max b d) (min a c + 65535)) r a b (min a c) (max b d) (omega arith) (omega arith)
by_down false r a b s c d same = tt

sum_first : (t u : SumTag) → IsSumTagWithin t (sum_join t u)
sum_first (sum.Up r a b) (sum.Up s c d) = by_up (r == s) r a b s c d (eqb-true r s)
sum_first (sum.Down r a b) (sum.Down s c d) = by_down (r == s) r a b s c d (eqb-true r s)
sum_first sum.None u = tt
sum_first (sum.Up r a b) sum.None = tt
sum_first (sum.Up r a b) (sum.Down s c d) = tt
sum_first (sum.Down r a b) sum.None = tt
sum_first (sum.Down r a b) (sum.Up s c d) = tt

or_up : (test : Bool) (r a b s c d : ℕ) → (test ≡ true → r ≡ s) → IsSumTagWithin (sum.Up s c d) (if test then up_from r (min a c) (max b d) else sum.None)
or_up true r a b s c d same =
    subst (λ (k : ℕ). IsSumTagWithin (sum.Up k c d) (up_from r (min a c) (max b d))) (same refl)
    (up_above (nat_lt (max b d) (min a c + 65535)) r c d (min a c) (max b d) (omega arith) (omega arith))
or_up false r a b s c d same = tt

or_down : (test : Bool) (r a b s c d : ℕ) → (test ≡ true → r ≡ s) → IsSumTagWithin (sum.Down s c d) (if test then down_from r (min a c) (max b d) else sum.None)
or_down true r a b s c d same =
    subst (λ (k : ℕ). IsSumTagWithin (sum.Down k c d) (down_from r (min a c) (max b d))) (same refl)
    (down_above (nat_lt (max b d) (min a c + 65535)) r c d (min a c) (max b d) (omega arith) (omega arith))
or_down false r a b s c d same = tt

sum_second : (t u : SumTag) → IsSumTagWithin u (sum_join t u)
sum_second (sum.Up r a b) (sum.Up s c d) = or_up (r == s) r a b s c d (eqb-true r s)
sum_second (sum.Down r a b) (sum.Down s c d) = or_down (r == s) r a b s c d (eqb-true r s)
sum_second sum.None u = none_above u
  where
    none_above : (u : SumTag) → IsSumTagWithin u sum.None
    none_above u = tt
sum_second (sum.Up r a b) sum.None = tt
sum_second (sum.Up r a b) (sum.Down s c d) = tt
sum_second (sum.Down r a b) sum.None = tt
sum_second (sum.Down r a b) (sum.Up s c d) = tt

near_up : (test : Bool) (r a b : ℕ) → IsNear (if test then up_from r a b else sum.None)
near_up true r a b = up_near (nat_lt b (a + 65535)) r a b (is_near a b)
near_up false r a b = tt

near_down : (test : Bool) (r a b : ℕ) → IsNear (if test then down_from r a b else sum.None)
near_down true r a b = down_near (nat_lt b (a + 65535)) r a b (is_near a b)
near_down false r a b = tt

sum_near : (t u : SumTag) → IsNear (sum_join t u)
sum_near (sum.Up r a b) (sum.Up s c d) = near_up (r == s) r (min a c) (max b d)
sum_near (sum.Down r a b) (sum.Down s c d) = near_down (r == s) r (min a c) (max b d)
sum_near sum.None u = tt
sum_near (sum.Up r a b) sum.None = tt
sum_near (sum.Up r a b) (sum.Down s c d) = tt
sum_near (sum.Down r a b) sum.None = tt
sum_near (sum.Down r a b) (sum.Up s c d) = tt

least_up : (test : Bool) (r a b s c d k l h : ℕ) → (r ≡ s → test ≡ true) → h < l + 65535 → AreEndsWithin r a b k l h → AreEndsWithin s c d k l h
    → IsSumTagWithin (if test then up_from r (min a c) (max b d) else sum.None) (sum.Up k l h)
least_up true r a b s c d k l h same near p q =
    subst (λ (n : ℕ). IsSumTagWithin (up_from r (min a c) (max b d)) (sum.Up n l h)) p.pair
    (up_below (nat_lt (max b d) (min a c + 65535)) r (min a c) (max b d) l h (is_wide (min a c) (max b d)) (omega (arith, p.low, q.low)) (omega (arith, p.high, q.high)) near)
least_up false r a b s c d k l h same near p q = absurd (false≢true (same (p.pair ∙ sym q.pair)))

least_down : (test : Bool) (r a b s c d k l h : ℕ) → (r ≡ s → test ≡ true) → h < l + 65535 → AreEndsWithin r a b k l h → AreEndsWithin s c d k l h
    → IsSumTagWithin (if test then down_from r (min a c) (max b d) else sum.None) (sum.Down k l h)
least_down true r a b s c d k l h same near p q =
    subst (λ (n : ℕ). IsSumTagWithin (down_from r (min a c) (max b d)) (sum.Down n l h)) p.pair
    (down_below (nat_lt (max b d) (min a c + 65535)) r (min a c) (max b d) l h (is_wide (min a c) (max b d)) (omega (arith, p.low, q.low)) (omega (arith, p.high, q.high)) near)
least_down false r a b s c d k l h same near p q = absurd (false≢true (same (p.pair ∙ sym q.pair)))

least_near : (t u v : SumTag) → IsNear v → IsSumTagWithin t v → IsSumTagWithin u v → IsSumTagWithin (sum_join t u) v
least_near t u sum.None near a b = tt
least_near (sum.Up r a b) (sum.Up s c d) (sum.Up k l h) near p q = least_up (r == s) r a b s c d k l h (eq-eqb r s) near (p near) (q near)
least_near (sum.Down r a b) (sum.Down s c d) (sum.Down k l h) near p q = least_down (r == s) r a b s c d k l h (eq-eqb r s) near (p near) (q near)
least_near sum.None u (sum.Up k l h) near p q = absurd (p near)
least_near sum.None u (sum.Down k l h) near p q = absurd (p near)
least_near (sum.Up r a b) u (sum.Down k l h) near p q = absurd (p near)
least_near (sum.Down r a b) u (sum.Up k l h) near p q = absurd (p near)
least_near (sum.Up r a b) sum.None (sum.Up k l h) near p q = absurd (q near)
least_near (sum.Up r a b) (sum.Down s c d) (sum.Up k l h) near p q = absurd (q near)
least_near (sum.Down r a b) sum.None (sum.Down k l h) near p q = absurd (q near)
least_near (sum.Down r a b) (sum.Up s c d) (sum.Down k l h) near p q = absurd (q near)

-- each tag is below one that isn't kept
wide_above : (t v : SumTag) → (IsNear v → ⊥) → IsSumTagWithin t v
wide_above t sum.None wide = tt
wide_above sum.None (sum.Up k l h) wide = wide
wide_above (sum.Up r a b) (sum.Up k l h) wide = λ near. absurd (wide near)
wide_above (sum.Down r a b) (sum.Up k l h) wide = wide
wide_above sum.None (sum.Down k l h) wide = wide
wide_above (sum.Up r a b) (sum.Down k l h) wide = wide
wide_above (sum.Down r a b) (sum.Down k l h) wide = λ near. absurd (wide near)

near_or_wide : (v : SumTag) → IsNear v ⊎ (IsNear v → ⊥)
near_or_wide sum.None = inl tt
near_or_wide (sum.Up k l h) = ⊎_elim (λ lt. inl lt) (λ over. inr (λ near. omega (arith, over, near))) (cases_lt h (l + 65535))
near_or_wide (sum.Down k l h) = ⊎_elim (λ lt. inl lt) (λ over. inr (λ near. omega (arith, over, near))) (cases_lt h (l + 65535))

sum_least : (t u v : SumTag) → IsSumTagWithin t v → IsSumTagWithin u v → IsSumTagWithin (sum_join t u) v
sum_least t u v p q = ⊎_elim (λ near. least_near t u v near p q) (λ wide. wide_above (sum_join t u) v wide) (near_or_wide v)

pub sums_are_ordered : SumsAreOrdered
sums_are_ordered = record {
  same = sum_same;
  through = sum_through;
  both = sum_both;
  first = sum_first;
  second = sum_second;
  near = sum_near;
  least = sum_least;
  wide = wide_above;
}

pub compares_are_ordered : ComparesAreOrdered
compares_are_ordered = grind arith

pub zeros_are_ordered : ZerosAreOrdered
zeros_are_ordered = grind arith

pub sum_less : (registers : List ℕ) (t u : SumTag) (c : Bool) → IsSumTagWithin t u → SumHolds registers t c → SumHolds registers u c
sum_less registers t sum.None c le h = tt
sum_less registers (sum.Up r a b) (sum.Up s d e) c le h = λ near.
    let w = le near in
    let held = h (still_near r a b s d e w near) in
    subst (λ (k : ℕ). LiesUp d e (pair_number registers k) (from_bool c)) w.pair (record { low = omega (arith, w.low, held.low); high = omega (arith, w.high, held.high) })
sum_less registers (sum.Down r a b) (sum.Down s d e) c le h = λ near.
    let w = le near in
    let held = h (still_near r a b s d e w near) in
    subst (λ (k : ℕ). LiesDown d e (pair_number registers k) (from_bool c)) w.pair (record { low = omega (arith, w.low, held.low); high = omega (arith, w.high, held.high) })
sum_less registers sum.None (sum.Up s d e) c le h = λ near. absurd (le near)
sum_less registers sum.None (sum.Down s d e) c le h = λ near. absurd (le near)
sum_less registers (sum.Up r a b) (sum.Down s d e) c le h = λ near. absurd (le near)
sum_less registers (sum.Down r a b) (sum.Up s d e) c le h = λ near. absurd (le near)

pub compare_less : (registers : List ℕ) (t u : CompareTag) (c z s : Bool) → IsCompareWithin t u → CompareHolds registers t c z s → CompareHolds registers u c z s
compare_less registers t compare.None c z s le h = tt
compare_less registers t (compare.Byte x y) c z s le h = subst (λ (v : CompareTag). CompareHolds registers v c z s) le h
compare_less registers t (compare.Pair r y p) c z s le h = subst (λ (v : CompareTag). CompareHolds registers v c z s) le h

pub zero_less : (registers : List ℕ) (t u : ZeroTag) (z : Bool) → IsZeroWithin t u → ZeroHolds registers t z → ZeroHolds registers u z
zero_less registers t zero.None z le h = tt
zero_less registers t (zero.Byte x) z le h = subst (λ (v : ZeroTag). ZeroHolds registers v z) le h
zero_less registers t (zero.Pair r) z le h = subst (λ (v : ZeroTag). ZeroHolds registers v z) le h
