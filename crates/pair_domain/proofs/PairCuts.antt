-- Cuts of pairs.
use Rattle.std.proofs.Common.{◌≡◌, refl, ◌∙◌, ap, subst, ℕ, ◌+◌, ◌*◌, ◌/◌, ◌%◌, ◌<◌, ◌≤◌, Bool, true, false, Option, Some, None, arith}
use Rattle.std.specs.Prelude.{◌==◌, if◌then◌else◌}
use Rattle.std.proofs.lemmas.Bool.{eqb-true, eq-eqb, false≢true}
use Rattle.bit_domain.specs.Ranges.{ByteSet, SetHas, IsSetWithin, RangeFits}
use Rattle.bit_domain.proofs.AllLaws.{ranges_fit}
use Rattle.pair_domain.specs.declared.intervals.Interval.{Interval}
use Rattle.pair_domain.specs.Intervals.{InInterval, IsIntervalWithin, interval_meet, hull}
use Rattle.pair_domain.specs.Narrow.{narrow}
use Rattle.pair_domain.specs.PairSets.{PairSet, PairStands, IsPairWithin, with_interval, cut_pair, with_low, with_high, narrow_low, narrow_high, low_within, with_both, bytes_within, narrow_pair}
use Rattle.pair_domain.specs.NarrowLaws.{PairFits, IsCut, IsMonotone, PairsAreCut}
use Rattle.pair_domain.proofs.Ordered.{intervals_are_ordered, intervals_meet, hulls_hold}
use Rattle.pair_domain.proofs.Narrowing.{narrowing_cuts, fits_if}

-- ---- order

set_same : (s : ByteSet) → IsSetWithin s s
set_same s = record { bits = λ x small h. h; low = omega arith; high = omega arith }

set_through : (s t u : ByteSet) → IsSetWithin s t → IsSetWithin t u → IsSetWithin s u
set_through s t u a b = record { bits = λ x small h. b.bits x small (a.bits x small h); low = omega (arith, a.low, b.low); high = omega (arith, a.high, b.high) }

pair_through : (p q r : PairSet) → IsPairWithin p q → IsPairWithin q r → IsPairWithin p r
pair_through p q r a b = record {
  low = set_through p.low q.low r.low a.low b.low;
  high = set_through p.high q.high r.high a.high b.high;
  interval = intervals_are_ordered.through p.interval q.interval r.interval a.interval b.interval;
}

-- ---- the hull

hull_keeps : (p : PairSet) (x y : ℕ) → PairStands p x y → (m : PairSet) × ((cut_pair p ≡ Some m) × PairStands m x y)
hull_keeps p x y h =
    let met = intervals_meet.meets p.interval (hull p.low p.high) (x + 256 * y) h.interval (hulls_hold.holds p.low p.high x y h.low h.high) in
    (record p { interval = met.0 }, (ap (with_interval p) met.1.0, record { low = h.low; high = h.high; interval = met.1.1 }))

hull_was : (p m : PairSet) (o : Option Interval) → with_interval p o ≡ Some m → (i : Interval) × ((o ≡ Some i) × (record p { interval = i } ≡ m))
hull_was p m None e = absurd (cc)
hull_was p m (Some i) e = (i, (refl, cc))

hull_under : (p m : PairSet) → cut_pair p ≡ Some m → IsPairWithin m p
hull_under p m e =
    let was = hull_was p m (interval_meet p.interval (hull p.low p.high)) e in
    subst (λ (q : PairSet). IsPairWithin q p) was.1.1
    (record { low = set_same p.low; high = set_same p.high; interval = (intervals_meet.under p.interval (hull p.low p.high) was.0 was.1.0).0 })

hull_more : (p p' m : PairSet) → IsPairWithin p p' → cut_pair p ≡ Some m → (m' : PairSet) × ((cut_pair p' ≡ Some m') × IsPairWithin m m')
hull_more p p' m le e =
    let was = hull_was p m (interval_meet p.interval (hull p.low p.high)) e in
    let met =
    intervals_meet.more p.interval (hull p.low p.high) p'.interval (hull p'.low p'.high) was.0 le.interval
    (hulls_hold.more p.low p.high p'.low p'.high le.low le.high) was.1.0 in (
      record p' { interval = met.0 },
      (
        ap (with_interval p') met.1.0,
        subst (λ (q : PairSet). IsPairWithin q (record p' { interval = met.0 })) was.1.1 (record { low = le.low; high = le.high; interval = met.1.1 }),
      ),
    )

hull_fits : (p m : PairSet) → PairFits p → cut_pair p ≡ Some m → PairFits m
hull_fits p m fits e =
    let was = hull_was p m (interval_meet p.interval (hull p.low p.high)) e in
    let under = (intervals_meet.under p.interval (hull p.low p.high) was.0 was.1.0).0 in
    subst PairFits was.1.1 (record {
      low = fits.low;
      high = fits.high;
      interval = record { ordered = intervals_meet.ordered p.interval (hull p.low p.high) was.0 was.1.0; small = omega (arith, under.high, fits.interval.small) };
    })

byte_fits : (s m : ByteSet) (low high : ℕ) → RangeFits s → narrow s low high ≡ Some m → RangeFits m
byte_fits s m low high fits e = (fits_if s m low high (omega (arith, fits.high, ranges_fit.most s.bits)) e).0

-- ---- one byte

low_was : (p m : PairSet) (o : Option ByteSet) → with_low p o ≡ Some m → (s : ByteSet) × ((o ≡ Some s) × (cut_pair (record p { low = s }) ≡ Some m))
low_was p m None e = absurd (cc)
low_was p m (Some s) e = (s, (refl, e))

high_was : (p m : PairSet) (o : Option ByteSet) → with_high p o ≡ Some m → (s : ByteSet) × ((o ≡ Some s) × (cut_pair (record p { high = s }) ≡ Some m))
high_was p m None e = absurd (cc)
high_was p m (Some s) e = (s, (refl, e))

low_cuts : (l h : ℕ) → IsCut (λ x y. (l ≤ x) × (x ≤ h)) (λ p. narrow_low p l h)
low_cuts l h = record {
  keeps = λ p x y holds inside.
      let s = narrowing_cuts.keeps p.low l h x holds.low inside.0 inside.1 in
      let cut = hull_keeps (record p { low = s.0 }) x y (record { low = s.1.1; high = holds.high; interval = holds.interval }) in
      (cut.0, (ap (with_low p) s.1.0 ∙ cut.1.0, cut.1.1));
  under = λ p m e.
      let was = low_was p m (narrow p.low l h) e in
      pair_through m (record p { low = was.0 }) p (hull_under (record p { low = was.0 }) m was.1.1)
      (record { low = (narrowing_cuts.under p.low was.0 l h was.1.0).0; high = set_same p.high; interval = intervals_are_ordered.same p.interval });
  fits = λ p m fits e.
      let was = low_was p m (narrow p.low l h) e in
      hull_fits (record p { low = was.0 }) m (record { low = byte_fits p.low was.0 l h fits.low was.1.0; high = fits.high; interval = fits.interval }) was.1.1;
}

low_more : (l h l' h' : ℕ) → h < 256 → l' ≤ l → h ≤ h' → IsMonotone (λ p. narrow_low p l h) (λ p. narrow_low p l' h')
low_more l h l' h' small down up p p' m le e =
    let was = low_was p m (narrow p.low l h) e in
    let s = narrowing_cuts.more p.low p'.low was.0 l h l' h' small le.low down up was.1.0 in
    let cut = hull_more (record p { low = was.0 }) (record p' { low = s.0 }) m (record { low = s.1.1; high = le.high; interval = le.interval }) was.1.1 in
    (cut.0, (ap (with_low p') s.1.0 ∙ cut.1.0, cut.1.1))

high_cuts : (l h : ℕ) → IsCut (λ x y. (l ≤ y) × (y ≤ h)) (λ p. narrow_high p l h)
high_cuts l h = record {
  keeps = λ p x y holds inside.
      let s = narrowing_cuts.keeps p.high l h y holds.high inside.0 inside.1 in
      let cut = hull_keeps (record p { high = s.0 }) x y (record { low = holds.low; high = s.1.1; interval = holds.interval }) in
      (cut.0, (ap (with_high p) s.1.0 ∙ cut.1.0, cut.1.1));
  under = λ p m e.
      let was = high_was p m (narrow p.high l h) e in
      pair_through m (record p { high = was.0 }) p (hull_under (record p { high = was.0 }) m was.1.1)
      (record { low = set_same p.low; high = (narrowing_cuts.under p.high was.0 l h was.1.0).0; interval = intervals_are_ordered.same p.interval });
  fits = λ p m fits e.
      let was = high_was p m (narrow p.high l h) e in
      hull_fits (record p { high = was.0 }) m (record { low = fits.low; high = byte_fits p.high was.0 l h fits.high was.1.0; interval = fits.interval }) was.1.1;
}

high_more : (l h l' h' : ℕ) → h < 256 → l' ≤ l → h ≤ h' → IsMonotone (λ p. narrow_high p l h) (λ p. narrow_high p l' h')
high_more l h l' h' small down up p p' m le e =
    let was = high_was p m (narrow p.high l h) e in
    let s = narrowing_cuts.more p.high p'.high was.0 l h l' h' small le.high down up was.1.0 in
    let cut = hull_more (record p { high = was.0 }) (record p' { high = s.0 }) m (record { low = le.low; high = s.1.1; interval = le.interval }) was.1.1 in
    (cut.0, (ap (with_high p') s.1.0 ∙ cut.1.0, cut.1.1))

-- ---- both bytes by the interval

-- the low byte of a number in the interval is kept
low_keeps : (test : Bool) (s : ByteSet) (i : Interval) (x y : ℕ) → (test ≡ true → i.low / 256 ≡ i.high / 256) → SetHas s x → InInterval i (x + 256 * y)
    → (m : ByteSet) × (((if test then narrow s (i.low % 256) (i.high % 256) else Some s) ≡ Some m) × SetHas m x)
low_keeps false s i x y same h inside = (s, (refl, h))
low_keeps true s i x y same h inside =
    let e = same refl in
    narrowing_cuts.keeps s (i.low % 256) (i.high % 256) x h (omega (arith, e, h.small, inside.low, inside.high)) (omega (arith, e, h.small, inside.low, inside.high))

low_under : (test : Bool) (s : ByteSet) (i : Interval) (m : ByteSet) → (if test then narrow s (i.low % 256) (i.high % 256) else Some s) ≡ Some m → IsSetWithin m s
low_under false s i m e = let P : ByteSet → Type 0 = λ t. IsSetWithin t s in let same : s ≡ m = cc in subst P same (set_same s)
low_under true s i m e = (narrowing_cuts.under s m (i.low % 256) (i.high % 256) e).0

low_less : (test test' : Bool) (s s' : ByteSet) (i i' : Interval) (m : ByteSet) → (test ≡ true → i.low / 256 ≡ i.high / 256)
    → (test' ≡ true → (i'.low / 256 ≡ i'.high / 256) × (test ≡ true)) → i.low ≤ i.high → IsSetWithin s s' → IsIntervalWithin i i'
    → (if test then narrow s (i.low % 256) (i.high % 256) else Some s) ≡ Some m
    → (m' : ByteSet) × (((if test' then narrow s' (i'.low % 256) (i'.high % 256) else Some s') ≡ Some m') × IsSetWithin m m')
low_less test false s s' i i' m same same' ordered le within e = (s', (refl, set_through m s s' (low_under test s i m e) le))
low_less true true s s' i i' m same same' ordered le within e =
    let p = same refl in
    let q = (same' refl).0 in
    narrowing_cuts.more s s' m (i.low % 256) (i.high % 256) (i'.low % 256) (i'.high % 256) (omega arith) le
    (omega (arith, p, q, within.low, within.high, ordered)) (omega (arith, p, q, within.low, within.high, ordered)) e
low_less false true s s' i i' m same same' ordered le within e = absurd (let q = (same' refl).1 in false≢true q)

both_was : (i : Interval) (a b : Option ByteSet) (m : PairSet) → with_both i a b ≡ Some m
    → (s : ByteSet × ByteSet) × ((a ≡ Some s.0) × (b ≡ Some s.1) × (cut_pair (record { low = s.0; high = s.1; interval = i }) ≡ Some m))
both_was i None b m e = absurd (cc)
both_was i (Some low) None m e = absurd (cc)
both_was i (Some low) (Some high) m e = ((low, high), (refl, refl, e))

made : (i : Interval) (a b : Option ByteSet) (low high : ByteSet) (m : PairSet) → a ≡ Some low → b ≡ Some high
    → cut_pair (record { low = low; high = high; interval = i }) ≡ Some m → with_both i a b ≡ Some m
made i a b low high m p q e = ap (λ o. with_both i o b) p ∙ ap (λ o. with_both i (Some low) o) q ∙ e

bytes_was : (p m : PairSet) (o : Option Interval) → bytes_within p o ≡ Some m
    → (i : Interval) × ((o ≡ Some i) × (with_both i (low_within p.low i) (narrow p.high (i.low / 256) (i.high / 256)) ≡ Some m))
bytes_was p m None e = absurd (cc)
bytes_was p m (Some i) e = (i, (refl, e))

pair_keeps : (i : Interval) (p : PairSet) (x y : ℕ) → PairStands p x y → InInterval i (x + 256 * y) → (m : PairSet) × ((narrow_pair p i ≡ Some m) × PairStands m x y)
pair_keeps i p x y h inside =
    let met = intervals_meet.meets p.interval i (x + 256 * y) h.interval inside in
    let j = met.0 in
    let in_j : InInterval j (x + 256 * y) = met.1.1 in
    let s = low_keeps (j.low / 256 == j.high / 256) p.low j x y (λ e. eqb-true (j.low / 256) (j.high / 256) e) h.low in_j in
    let t =
    narrowing_cuts.keeps p.high (j.low / 256) (j.high / 256) y h.high (omega (arith, h.low.small, in_j.low)) (omega (arith, h.low.small, in_j.high)) in
    let cut = hull_keeps (record { low = s.0; high = t.0; interval = j }) x y (record { low = s.1.1; high = t.1.1; interval = in_j }) in (
      cut.0,
      (
        ap (bytes_within p) met.1.0 ∙ made j (low_within p.low j) (narrow p.high (j.low / 256) (j.high / 256)) s.0 t.0 cut.0 s.1.0 t.1.0 cut.1.0,
        cut.1.1,
      ),
    )

pair_under : (i : Interval) (p m : PairSet) → narrow_pair p i ≡ Some m → IsPairWithin m p
pair_under i p m e =
    let was = bytes_was p m (interval_meet p.interval i) e in
    let j = was.0 in
    let both = both_was j (low_within p.low j) (narrow p.high (j.low / 256) (j.high / 256)) m was.1.1 in
    pair_through m (record { low = both.0.0; high = both.0.1; interval = j }) p (hull_under (record { low = both.0.0; high = both.0.1; interval = j }) m both.1.2)
    (record {
      low = low_under (j.low / 256 == j.high / 256) p.low j both.0.0 both.1.0;
      high = (narrowing_cuts.under p.high both.0.1 (j.low / 256) (j.high / 256) both.1.1).0;
      interval = (intervals_meet.under p.interval i j was.1.0).0;
    })

low_fits : (test : Bool) (s : ByteSet) (i : Interval) (m : ByteSet) → RangeFits s → (if test then narrow s (i.low % 256) (i.high % 256) else Some s) ≡ Some m → RangeFits m
low_fits false s i m fits e = let same : s ≡ m = cc in subst RangeFits same fits
low_fits true s i m fits e = byte_fits s m (i.low % 256) (i.high % 256) fits e

pair_fits : (i : Interval) (p m : PairSet) → PairFits p → narrow_pair p i ≡ Some m → PairFits m
pair_fits i p m fits e =
    let was = bytes_was p m (interval_meet p.interval i) e in
    let j = was.0 in
    let both = both_was j (low_within p.low j) (narrow p.high (j.low / 256) (j.high / 256)) m was.1.1 in
    let under = (intervals_meet.under p.interval i j was.1.0).0 in
    hull_fits (record { low = both.0.0; high = both.0.1; interval = j }) m
    (record {
      low = low_fits (j.low / 256 == j.high / 256) p.low j both.0.0 fits.low both.1.0;
      high = byte_fits p.high both.0.1 (j.low / 256) (j.high / 256) fits.high both.1.1;
      interval = record { ordered = intervals_meet.ordered p.interval i j was.1.0; small = omega (arith, under.high, fits.interval.small) };
    }) both.1.2

one_page : (i i' : Interval) → i.low ≤ i.high → IsIntervalWithin i i' → i'.low / 256 ≡ i'.high / 256 → (i.low / 256 == i.high / 256) ≡ true
one_page i i' ordered le e = eq-eqb (i.low / 256) (i.high / 256) (omega (arith, ordered, le.low, le.high, e))

pair_more : (i i' : Interval) → i.high < 65536 → IsIntervalWithin i i' → IsMonotone (λ p. narrow_pair p i) (λ p. narrow_pair p i')
pair_more i i' small within p p' m le e =
    let was = bytes_was p m (interval_meet p.interval i) e in
    let j = was.0 in
    let both = both_was j (low_within p.low j) (narrow p.high (j.low / 256) (j.high / 256)) m was.1.1 in
    let ordered = intervals_meet.ordered p.interval i j was.1.0 in
    let under = intervals_meet.under p.interval i j was.1.0 in
    let met = intervals_meet.more p.interval i p'.interval i' j le.interval within was.1.0 in
    let j' = met.0 in
    let in_j : IsIntervalWithin j j' = met.1.1 in
    let s =
    low_less (j.low / 256 == j.high / 256) (j'.low / 256 == j'.high / 256) p.low p'.low j j' both.0.0 (λ t. eqb-true (j.low / 256) (j.high / 256) t)
    (λ t. let same = eqb-true (j'.low / 256) (j'.high / 256) t in (same, one_page j j' ordered in_j same)) ordered le.low in_j both.1.0 in
    let t =
    narrowing_cuts.more p.high p'.high both.0.1 (j.low / 256) (j.high / 256) (j'.low / 256) (j'.high / 256) (omega (arith, under.1.high, small)) le.high
    (omega (arith, in_j.low)) (omega (arith, in_j.high)) both.1.1 in
    let cut =
    hull_more (record { low = both.0.0; high = both.0.1; interval = j }) (record { low = s.0; high = t.0; interval = j' }) m
    (record { low = s.1.1; high = t.1.1; interval = in_j }) both.1.2 in (
      cut.0,
      (
        ap (bytes_within p') met.1.0 ∙ made j' (low_within p'.low j') (narrow p'.high (j'.low / 256) (j'.high / 256)) s.0 t.0 cut.0 s.1.0 t.1.0 cut.1.0,
        cut.1.1,
      ),
    )

pub pairs_are_cut : PairsAreCut
pairs_are_cut = record {
  hull = record { keeps = λ p x y h u. hull_keeps p x y h; under = hull_under; fits = hull_fits };
  hull_more = hull_more;
  low = low_cuts;
  low_more = low_more;
  high = high_cuts;
  high_more = high_more;
  pair = λ i. record { keeps = pair_keeps i; under = pair_under i; fits = pair_fits i };
  pair_more = pair_more;
}
