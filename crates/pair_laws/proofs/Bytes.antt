-- Cuts of one byte of a pair, and of the pair.
use Rattle.std.proofs.Common.{◌≡◌, refl, sym, ◌∙◌, ap, subst, ℕ, ◌/◌, ◌%◌, ◌<◌, min, Bool, true, false, Option, Some, None, arith}
use Rattle.std.specs.Prelude.{◌==◌, if◌then◌else◌}
use Rattle.bit_domain.specs.Ranges.{ByteSet, SetHas, IsSetWithin, RangeFits}
use Rattle.bit_domain.proofs.AllLaws.{ranges_fit}
use Rattle.pair_domain.specs.declared.intervals.Interval.{Interval}
use Rattle.pair_domain.specs.Intervals.{InInterval, IsIntervalWithin, interval_meet, hull}
use Rattle.pair_domain.specs.Narrow.{narrow}
use Rattle.pair_domain.specs.PairSets.{PairSet, PairStands, IsPairWithin, with_interval, cut_pair, with_low, with_high, low_within, with_both, bytes_within, narrow_pair}
use Rattle.pair_domain.specs.NarrowLaws.{PairFits, IsCut, IsMonotone}
use Rattle.pair_domain.proofs.AllLaws.{intervals_are_ordered, intervals_meet, narrowing_cuts, pairs_are_cut}
use Rattle.pair_cuts.specs.Places.{on_byte}
use Rattle.pair_cuts.proofs.Capped.{narrow_capped}
use Rattle.pair_laws.proofs.Steps.{EndsInHull}

-- a cut of a byte keeps each byte with P, is within its argument, and fits if the byte did
pub record IsByteCut (P : ℕ → Type 0) (cut : ByteSet → Option ByteSet) : Type 0 where
  pub keeps : (b : ByteSet) (x : ℕ) → SetHas b x → P x → (m : ByteSet) × ((cut b ≡ Some m) × SetHas m x)
  pub under : (b m : ByteSet) → cut b ≡ Some m → IsSetWithin m b
  pub fits : (b m : ByteSet) → RangeFits b → cut b ≡ Some m → RangeFits m

abbrev pub IsByteMonotone : (ByteSet → Option ByteSet) → (ByteSet → Option ByteSet) → Type 0
IsByteMonotone cut cut' = (b b' m : ByteSet) → IsSetWithin b b' → cut b ≡ Some m → (m' : ByteSet) × ((cut' b' ≡ Some m') × IsSetWithin m m')

-- ---- order

pub set_same : (s : ByteSet) → IsSetWithin s s
set_same s = record { bits = λ x small h. h; low = omega arith; high = omega arith }

pub set_through : (s t u : ByteSet) → IsSetWithin s t → IsSetWithin t u → IsSetWithin s u
set_through s t u a b = record { bits = λ x small h. b.bits x small (a.bits x small h); low = omega (arith, a.low, b.low); high = omega (arith, a.high, b.high) }

pub pair_through : (p q r : PairSet) → IsPairWithin p q → IsPairWithin q r → IsPairWithin p r
pair_through p q r a b = record {
  low = set_through p.low q.low r.low a.low b.low;
  high = set_through p.high q.high r.high a.high b.high;
  interval = intervals_are_ordered.through p.interval q.interval r.interval a.interval b.interval;
}

-- ---- the hull is what a cut ends with

hull_was : (p m : PairSet) (o : Option Interval) → with_interval p o ≡ Some m → (i : Interval) × ((o ≡ Some i) × (record p { interval = i } ≡ m))
hull_was p m None e = absurd (cc)
hull_was p m (Some i) e = (i, (refl, cc))

pub hull_ends : EndsInHull cut_pair
hull_ends p m e =
    let was = hull_was p m (interval_meet p.interval (hull p.low p.high)) e in
    subst (λ (q : PairSet). IsIntervalWithin q.interval (hull q.low q.high)) was.1.1 ((intervals_meet.under p.interval (hull p.low p.high) was.0 was.1.0).1)

both_ends : (i : Interval) (a b : Option ByteSet) (m : PairSet) → with_both i a b ≡ Some m → IsIntervalWithin m.interval (hull m.low m.high)
both_ends i None b m e = absurd (cc)
both_ends i (Some low) None m e = absurd (cc)
both_ends i (Some low) (Some high) m e = hull_ends (record { low = low; high = high; interval = i }) m e

bytes_end : (p m : PairSet) (o : Option Interval) → bytes_within p o ≡ Some m → IsIntervalWithin m.interval (hull m.low m.high)
bytes_end p m None e = absurd (cc)
bytes_end p m (Some i) e = both_ends i (low_within p.low i) (narrow p.high (i.low / 256) (i.high / 256)) m e

pub pair_ends : (i : Interval) → EndsInHull (λ p. narrow_pair p i)
pair_ends i p m e = bytes_end p m (interval_meet p.interval i) e

-- ---- one byte

pub low_was : (p m : PairSet) (o : Option ByteSet) → with_low p o ≡ Some m → (s : ByteSet) × ((o ≡ Some s) × (cut_pair (record p { low = s }) ≡ Some m))
low_was p m None e = absurd (cc)
low_was p m (Some s) e = (s, (refl, e))

pub high_was : (p m : PairSet) (o : Option ByteSet) → with_high p o ≡ Some m → (s : ByteSet) × ((o ≡ Some s) × (cut_pair (record p { high = s }) ≡ Some m))
high_was p m None e = absurd (cc)
high_was p m (Some s) e = (s, (refl, e))

-- the low byte if `even`, else the high one
abbrev byte_cut : Bool → (ByteSet → Option ByteSet) → PairSet → Option PairSet
byte_cut even cut p = if even then with_low p (cut p.low) else with_high p (cut p.high)

module _ (P : ℕ → Type 0) (cut : ByteSet → Option ByteSet) (is : IsByteCut P cut) where
  byte_keeps : (even : Bool) (p : PairSet) (x y : ℕ) → PairStands p x y → P (if even then x else y) → (m : PairSet) × ((byte_cut even cut p ≡ Some m) × PairStands m x y)
  byte_keeps true p x y h holds =
      let s = is.keeps p.low x h.low holds in
      let m = pairs_are_cut.hull.keeps (record p { low = s.0 }) x y (record { low = s.1.1; high = h.high; interval = h.interval }) tt in
      (m.0, (ap (with_low p) s.1.0 ∙ m.1.0, m.1.1))
  byte_keeps false p x y h holds =
      let s = is.keeps p.high y h.high holds in
      let m = pairs_are_cut.hull.keeps (record p { high = s.0 }) x y (record { low = h.low; high = s.1.1; interval = h.interval }) tt in
      (m.0, (ap (with_high p) s.1.0 ∙ m.1.0, m.1.1))

  byte_under : (even : Bool) (p m : PairSet) → byte_cut even cut p ≡ Some m → IsPairWithin m p
  byte_under true p m e =
      let was = low_was p m (cut p.low) e in
      pair_through m (record p { low = was.0 }) p (pairs_are_cut.hull.under (record p { low = was.0 }) m was.1.1)
      (record { low = is.under p.low was.0 was.1.0; high = set_same p.high; interval = intervals_are_ordered.same p.interval })
  byte_under false p m e =
      let was = high_was p m (cut p.high) e in
      pair_through m (record p { high = was.0 }) p (pairs_are_cut.hull.under (record p { high = was.0 }) m was.1.1)
      (record { low = set_same p.low; high = is.under p.high was.0 was.1.0; interval = intervals_are_ordered.same p.interval })

  byte_fits : (even : Bool) (p m : PairSet) → PairFits p → byte_cut even cut p ≡ Some m → PairFits m
  byte_fits true p m fits e =
      let was = low_was p m (cut p.low) e in
      pairs_are_cut.hull.fits (record p { low = was.0 }) m (record { low = is.fits p.low was.0 fits.low was.1.0; high = fits.high; interval = fits.interval }) was.1.1
  byte_fits false p m fits e =
      let was = high_was p m (cut p.high) e in
      pairs_are_cut.hull.fits (record p { high = was.0 }) m (record { low = fits.low; high = is.fits p.high was.0 fits.high was.1.0; interval = fits.interval }) was.1.1

  pub on_byte_cuts : (r : ℕ) → IsCut (λ x y. P (if r % 2 == 0 then x else y)) (on_byte r cut)
  on_byte_cuts r = record { keeps = byte_keeps (r % 2 == 0); under = byte_under (r % 2 == 0); fits = byte_fits (r % 2 == 0) }

byte_ends : (cut : ByteSet → Option ByteSet) (even : Bool) → EndsInHull (byte_cut even cut)
byte_ends cut true p m e = let was = low_was p m (cut p.low) e in hull_ends (record p { low = was.0 }) m was.1.1
byte_ends cut false p m e = let was = high_was p m (cut p.high) e in hull_ends (record p { high = was.0 }) m was.1.1

pub on_byte_ends : (cut : ByteSet → Option ByteSet) (r : ℕ) → EndsInHull (on_byte r cut)
on_byte_ends cut r = byte_ends cut (r % 2 == 0)

byte_more : (cut cut' : ByteSet → Option ByteSet) → IsByteMonotone cut cut' → (even : Bool) → IsMonotone (byte_cut even cut) (byte_cut even cut')
byte_more cut cut' more true p p' m le e =
    let was = low_was p m (cut p.low) e in
    let s = more p.low p'.low was.0 le.low was.1.0 in
    let n = pairs_are_cut.hull_more (record p { low = was.0 }) (record p' { low = s.0 }) m (record { low = s.1.1; high = le.high; interval = le.interval }) was.1.1 in
    (n.0, (ap (with_low p') s.1.0 ∙ n.1.0, n.1.1))
byte_more cut cut' more false p p' m le e =
    let was = high_was p m (cut p.high) e in
    let s = more p.high p'.high was.0 le.high was.1.0 in
    let n = pairs_are_cut.hull_more (record p { high = was.0 }) (record p' { high = s.0 }) m (record { low = le.low; high = s.1.1; interval = le.interval }) was.1.1 in
    (n.0, (ap (with_high p') s.1.0 ∙ n.1.0, n.1.1))

pub on_byte_more : (cut cut' : ByteSet → Option ByteSet) → IsByteMonotone cut cut' → (r : ℕ) → IsMonotone (on_byte r cut) (on_byte r cut')
on_byte_more cut cut' more r = byte_more cut cut' more (r % 2 == 0)

-- ---- a range

pub range_small : (b : ByteSet) → RangeFits b → b.high < 256
range_small b fits = omega (arith, fits.high, ranges_fit.most b.bits)

pub narrow_cuts : (i : Interval) → IsByteCut (InInterval i) (λ b. narrow b i.low i.high)
narrow_cuts i = record {
  keeps = λ b x h inside. narrowing_cuts.keeps b i.low i.high x h inside.low inside.high;
  under = λ b m e. (narrowing_cuts.under b m i.low i.high e).0;
  fits = λ b m fits e. (narrowing_cuts.fits b m i.low (min i.high 255) (omega arith) (sym (narrow_capped b i.low i.high (range_small b fits)) ∙ e)).0;
}

pub narrow_more : (i i' : Interval) → i.high < 256 → IsIntervalWithin i i' → IsByteMonotone (λ b. narrow b i.low i.high) (λ b. narrow b i'.low i'.high)
narrow_more i i' small within b b' m le e = narrowing_cuts.more b b' m i.low i.high i'.low i'.high small le within.low within.high e
