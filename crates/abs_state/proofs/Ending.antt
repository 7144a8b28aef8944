-- Facts on pairs that a write ends.
use Rattle.std.proofs.Common.{◌≡◌, ◌≢◌, refl, sym, ◌∙◌, ap, ap₂, subst, subst₂, ⊎_elim, ℕ, zero, suc, ◌+◌, ◌*◌, ◌/◌, ◌<◌, ◌≤◌, Bool, true, false, List, [], ◌∷◌, length, Option, Some, None, slice_set, slice_index, length-set, arith}
use Rattle.std.specs.Prelude.{◌==◌, ◌||◌, nat_lt, if◌then◌else◌}
use Rattle.std.specs.Int.{from_bool}
use Rattle.std.proofs.lemmas.Bool.{or_parts, cases_lt}
use Rattle.avr_model.specs.Sreg.{flag}
use Rattle.bit_domain.specs.Ranges.{IsSetWithin}
use Rattle.bit_domain.proofs.AllLaws.{ranges_fit}
use Rattle.sp_domain.specs.Tags.{Origin}
use Rattle.pair_domain.specs.declared.intervals.Interval.{Interval}
use Rattle.pair_domain.specs.declared.facts.PairFacts.{PairFacts}
use Rattle.pair_domain.specs.declared.tags.SumTag.{SumTag}
use Rattle.pair_domain.specs.declared.tags.SumTag.TheVariants as sum
use Rattle.pair_domain.specs.declared.tags.Side.{Side}
use Rattle.pair_domain.specs.declared.tags.Side.TheVariants as side
use Rattle.pair_domain.specs.declared.tags.CompareTag.{CompareTag}
use Rattle.pair_domain.specs.declared.tags.CompareTag.TheVariants as compare
use Rattle.pair_domain.specs.declared.tags.ZeroTag.{ZeroTag}
use Rattle.pair_domain.specs.declared.tags.ZeroTag.TheVariants as zero_tag
use Rattle.pair_domain.specs.Intervals.{InInterval, IsIntervalWithin, whole}
use Rattle.pair_domain.specs.Tags.{pair_number, side_byte, signed_below, LiesUp, LiesDown, AreNear, IsNear, IsCompared, SumHolds, CompareHolds, ZeroHolds, IsSumTagWithin, IsCompareWithin, IsZeroWithin}
use Rattle.pair_domain.specs.Facts.{interval_at, IsKnownWithin, HasSixteen, is_followed}
use Rattle.pair_domain.specs.Rank.{IntervalFits, SumFits, CompareFits, ZeroFits, KnownFits}
use Rattle.pair_domain.proofs.AllLaws.{intervals_are_ordered, sums_are_ordered, compares_are_ordered, zeros_are_ordered, hulls_hold}
use Rattle.abs_state.specs.declared.values.AbsByte.{AbsByte}
use Rattle.abs_state.specs.Values.{value_at, set_of}
use Rattle.abs_state.specs.Stands.{RegistersStand}
use Rattle.abs_state.specs.Order.{IsByteWithin}
use Rattle.abs_state.specs.Formed.{ByteFits}
use Rattle.abs_state.specs.Laws.{HoldsAt}
use Rattle.abs_state.specs.Ended.{in_pair, in_side, sum_ended, compare_ended, zero_ended, intervals_ended, ended, hull_at, written_hull, AreRegistersWritten, AreFlagsWritten, WritesEndFacts}
use Rattle.abs_state.proofs.Listed.{same_items}
use Rattle.abs_state.proofs.Cutting.{interval_other, each_interval, both_intervals}

-- ---- intervals by their numbers

same_whole : (b : Bool) → whole ≡ (if b then whole else whole)
same_whole true = refl
same_whole false = refl

ended_from : (written : ℕ → Bool) (k : ℕ) (is : List Interval) (n : ℕ)
    → interval_at (intervals_ended written k is) n ≡ (if in_pair written (2 * (k + n)) then whole else interval_at is n)
unfolding intervals_ended
ended_from written k [] n = same_whole (in_pair written (2 * (k + n)))
ended_from written k (i ∷ is) zero = let e : k ≡ k + 0 = omega arith in ap (λ (m : ℕ). if in_pair written (2 * m) then whole else i) e
ended_from written k (i ∷ is) (suc n) =
    let e : suc k + n ≡ k + suc n = omega arith in
    ended_from written (suc k) is n ∙ ap (λ (m : ℕ). if in_pair written (2 * m) then whole else interval_at is n) e

pub ended_at : (written : ℕ → Bool) (is : List Interval) (n : ℕ) → interval_at (intervals_ended written 0 is) n ≡ (if in_pair written (2 * n) then whole else interval_at is n)
ended_at written is n =
    let e : 0 + n ≡ n = omega arith in
    ended_from written 0 is n ∙ ap (λ (m : ℕ). if in_pair written (2 * m) then whole else interval_at is n) e

length-ended : (written : ℕ → Bool) (k : ℕ) (is : List Interval) → length (intervals_ended written k is) ≡ length is
unfolding intervals_ended
length-ended written k [] = refl
length-ended written k (i ∷ is) = ap suc (length-ended written (suc k) is)

-- the first n intervals are ended
pub record AreEnded (written : ℕ → Bool) (is left : List Interval) (n : ℕ) : Type 0 where
  pub count : length left ≡ 16
  pub done : (k : ℕ) → k < n → interval_at left k ≡ (if in_pair written (2 * k) then whole else interval_at is k)

pub all_ended : (written : ℕ → Bool) (is left : List Interval) (n : ℕ) → length is ≡ 16 → 16 ≤ n → AreEnded written is left n → left ≡ intervals_ended written 0 is
all_ended written is left n count over h =
    same_items whole left (intervals_ended written 0 is) (h.count ∙ sym (length-ended written 0 is ∙ count)) (λ k lt.
    h.done k (omega (arith, lt, over, h.count)) ∙ sym (ended_at written is k))

-- ---- what is left says less

interval_less : (b : Bool) (i : Interval) → i.high < 65536 → IsIntervalWithin i (if b then whole else i)
interval_less true i small = intervals_are_ordered.top i small
interval_less false i small = intervals_are_ordered.same i

sum_chosen : (b : Bool) (t : SumTag) → IsSumTagWithin t (if b then sum.None else t)
sum_chosen true t = tt
sum_chosen false t = sums_are_ordered.same t

compare_chosen : (b : Bool) (t : CompareTag) → IsCompareWithin t (if b then compare.None else t)
compare_chosen true t = tt
compare_chosen false t = compares_are_ordered.same t

zero_chosen : (b : Bool) (t : ZeroTag) → IsZeroWithin t (if b then zero_tag.None else t)
zero_chosen true t = tt
zero_chosen false t = zeros_are_ordered.same t

sum_less : (written : ℕ → Bool) (b : Bool) (t : SumTag) → IsSumTagWithin t (sum_ended written b t)
sum_less written b sum.None = tt
sum_less written b (sum.Up r a c) = sum_chosen (b || in_pair written r) (sum.Up r a c)
sum_less written b (sum.Down r a c) = sum_chosen (b || in_pair written r) (sum.Down r a c)

compare_less : (written : ℕ → Bool) (b : Bool) (t : CompareTag) → IsCompareWithin t (compare_ended written b t)
compare_less written b compare.None = tt
compare_less written b (compare.Byte x y) = compare_chosen (b || (written x || in_side written y)) (compare.Byte x y)
compare_less written b (compare.Pair r y p) = compare_chosen (b || (in_pair written r || (in_side written y || written p))) (compare.Pair r y p)

zero_less : (written : ℕ → Bool) (b : Bool) (t : ZeroTag) → IsZeroWithin t (zero_ended written b t)
zero_less written b zero_tag.None = tt
zero_less written b (zero_tag.Byte x) = zero_chosen (b || written x) (zero_tag.Byte x)
zero_less written b (zero_tag.Pair r) = zero_chosen (b || in_pair written r) (zero_tag.Pair r)

less : (written : ℕ → Bool) (flags carry : Bool) (x : Option PairFacts) → KnownFits x → IsKnownWithin x (ended written flags carry x)
less written flags carry None fits = tt
less written flags carry (Some f) fits = record {
  intervals = λ n lt.
      subst (IsIntervalWithin (interval_at f.intervals n)) (sym (ended_at written f.intervals n))
      (interval_less (in_pair written (2 * n)) (interval_at f.intervals n) (fits.intervals n lt).small);
  sum = sum_less written carry f.sum;
  compare = compare_less written flags f.compare;
  zero = zero_less written flags f.zero;
}

-- ---- of more, more is left

interval_more : (b : Bool) (i j : Interval) → IsIntervalWithin i j → IsIntervalWithin (if b then whole else i) (if b then whole else j)
interval_more true i j le = intervals_are_ordered.same whole
interval_more false i j le = le

near_up : (t : SumTag) (s d e : ℕ) → (AreNear d e → IsSumTagWithin t (sum.Up s d e)) → IsSumTagWithin t (sum.Up s d e)
near_up sum.None s d e h = λ near. h near near
near_up (sum.Up q x y) s d e h = λ near. h near near
near_up (sum.Down q x y) s d e h = λ near. h near near

near_down : (t : SumTag) (s d e : ℕ) → (AreNear d e → IsSumTagWithin t (sum.Down s d e)) → IsSumTagWithin t (sum.Down s d e)
near_down sum.None s d e h = λ near. h near near
near_down (sum.Up q x y) s d e h = λ near. h near near
near_down (sum.Down q x y) s d e h = λ near. h near near

-- ends within kept ones are of the same pair
up_more : (written : ℕ → Bool) (b : Bool) (r a c s d e : ℕ) → IsSumTagWithin (sum.Up r a c) (sum.Up s d e)
    → IsSumTagWithin (if b || in_pair written r then sum.None else sum.Up r a c) (if b || in_pair written s then sum.None else sum.Up s d e)
up_more written b r a c s d e le = by (b || in_pair written s) refl
  where
    by : (x : Bool) → (b || in_pair written s) ≡ x → IsSumTagWithin (if b || in_pair written r then sum.None else sum.Up r a c) (if x then sum.None else sum.Up s d e)
    by true is = tt
    by false is =
        near_up (if b || in_pair written r then sum.None else sum.Up r a c) s d e (λ near.
        subst (λ (x : Bool). IsSumTagWithin (if x then sum.None else sum.Up r a c) (sum.Up s d e)) (sym (ap (λ (q : ℕ). b || in_pair written q) (le near).pair ∙ is)) le)

down_more : (written : ℕ → Bool) (b : Bool) (r a c s d e : ℕ) → IsSumTagWithin (sum.Down r a c) (sum.Down s d e)
    → IsSumTagWithin (if b || in_pair written r then sum.None else sum.Down r a c) (if b || in_pair written s then sum.None else sum.Down s d e)
down_more written b r a c s d e le = by (b || in_pair written s) refl
  where
    by : (x : Bool) → (b || in_pair written s) ≡ x → IsSumTagWithin (if b || in_pair written r then sum.None else sum.Down r a c) (if x then sum.None else sum.Down s d e)
    by true is = tt
    by false is =
        near_down (if b || in_pair written r then sum.None else sum.Down r a c) s d e (λ near.
        subst (λ (x : Bool). IsSumTagWithin (if x then sum.None else sum.Down r a c) (sum.Down s d e)) (sym (ap (λ (q : ℕ). b || in_pair written q) (le near).pair ∙ is)) le)

-- a tag of another kind claims nothing that a kept one does
other_more : (t u : SumTag) (x y : Bool) → (IsNear u → ⊥) → IsSumTagWithin (if x then sum.None else t) (if y then sum.None else u)
other_more t u x true wide = tt
other_more t u x false wide = sums_are_ordered.wide (if x then sum.None else t) u wide

sum_more : (written : ℕ → Bool) (b : Bool) (t u : SumTag) → IsSumTagWithin t u → IsSumTagWithin (sum_ended written b t) (sum_ended written b u)
sum_more written b t sum.None le = tt
sum_more written b (sum.Up r a c) (sum.Up s d e) le = up_more written b r a c s d e le
sum_more written b (sum.Down r a c) (sum.Down s d e) le = down_more written b r a c s d e le
sum_more written b sum.None (sum.Up s d e) le = other_more sum.None (sum.Up s d e) true (b || in_pair written s) le
sum_more written b (sum.Down r a c) (sum.Up s d e) le = other_more (sum.Down r a c) (sum.Up s d e) (b || in_pair written r) (b || in_pair written s) le
sum_more written b sum.None (sum.Down s d e) le = other_more sum.None (sum.Down s d e) true (b || in_pair written s) le
sum_more written b (sum.Up r a c) (sum.Down s d e) le = other_more (sum.Up r a c) (sum.Down s d e) (b || in_pair written r) (b || in_pair written s) le

compare_same : (written : ℕ → Bool) (b : Bool) (t u : CompareTag) → t ≡ u → IsCompareWithin (compare_ended written b t) (compare_ended written b u)
compare_same written b t u e = subst (λ (v : CompareTag). IsCompareWithin (compare_ended written b t) (compare_ended written b v)) e (compares_are_ordered.same (compare_ended written b t))

compare_more : (written : ℕ → Bool) (b : Bool) (t u : CompareTag) → IsCompareWithin t u → IsCompareWithin (compare_ended written b t) (compare_ended written b u)
compare_more written b t compare.None le = tt
compare_more written b t (compare.Byte x y) le = compare_same written b t (compare.Byte x y) le
compare_more written b t (compare.Pair r y p) le = compare_same written b t (compare.Pair r y p) le

zero_same : (written : ℕ → Bool) (b : Bool) (t u : ZeroTag) → t ≡ u → IsZeroWithin (zero_ended written b t) (zero_ended written b u)
zero_same written b t u e = subst (λ (v : ZeroTag). IsZeroWithin (zero_ended written b t) (zero_ended written b v)) e (zeros_are_ordered.same (zero_ended written b t))

zero_more : (written : ℕ → Bool) (b : Bool) (t u : ZeroTag) → IsZeroWithin t u → IsZeroWithin (zero_ended written b t) (zero_ended written b u)
zero_more written b t zero_tag.None le = tt
zero_more written b t (zero_tag.Byte x) le = zero_same written b t (zero_tag.Byte x) le
zero_more written b t (zero_tag.Pair r) le = zero_same written b t (zero_tag.Pair r) le

more : (written : ℕ → Bool) (flags carry : Bool) (x y : Option PairFacts) → IsKnownWithin x y → IsKnownWithin (ended written flags carry x) (ended written flags carry y)
more written flags carry x None le = tt
more written flags carry None (Some g) le = absurd le
more written flags carry (Some f) (Some g) le = record {
  intervals = λ n lt.
      subst₂ IsIntervalWithin (sym (ended_at written f.intervals n)) (sym (ended_at written g.intervals n))
      (interval_more (in_pair written (2 * n)) (interval_at f.intervals n) (interval_at g.intervals n) (le.intervals n lt));
  sum = sum_more written carry f.sum g.sum le.sum;
  compare = compare_more written flags f.compare g.compare le.compare;
  zero = zero_more written flags f.zero g.zero le.zero;
}

-- ---- what is left fits

interval_fits : (b : Bool) (i : Interval) → IntervalFits i → IntervalFits (if b then whole else i)
interval_fits true i h = record { ordered = omega arith; small = omega arith }
interval_fits false i h = h

sum_kept : (b : Bool) (t : SumTag) → SumFits t → SumFits (if b then sum.None else t)
sum_kept true t h = tt
sum_kept false t h = h

sum_fits : (written : ℕ → Bool) (b : Bool) (t : SumTag) → SumFits t → SumFits (sum_ended written b t)
sum_fits written b sum.None h = tt
sum_fits written b (sum.Up r a c) h = sum_kept (b || in_pair written r) (sum.Up r a c) h
sum_fits written b (sum.Down r a c) h = sum_kept (b || in_pair written r) (sum.Down r a c) h

compare_kept : (b : Bool) (t : CompareTag) → CompareFits t → CompareFits (if b then compare.None else t)
compare_kept true t h = tt
compare_kept false t h = h

compare_fits : (written : ℕ → Bool) (b : Bool) (t : CompareTag) → CompareFits t → CompareFits (compare_ended written b t)
compare_fits written b compare.None h = tt
compare_fits written b (compare.Byte x y) h = compare_kept (b || (written x || in_side written y)) (compare.Byte x y) h
compare_fits written b (compare.Pair r y p) h = compare_kept (b || (in_pair written r || (in_side written y || written p))) (compare.Pair r y p) h

zero_kept : (b : Bool) (t : ZeroTag) → ZeroFits t → ZeroFits (if b then zero_tag.None else t)
zero_kept true t h = tt
zero_kept false t h = h

zero_fits : (written : ℕ → Bool) (b : Bool) (t : ZeroTag) → ZeroFits t → ZeroFits (zero_ended written b t)
zero_fits written b zero_tag.None h = tt
zero_fits written b (zero_tag.Byte x) h = zero_kept (b || written x) (zero_tag.Byte x) h
zero_fits written b (zero_tag.Pair r) h = zero_kept (b || in_pair written r) (zero_tag.Pair r) h

fits : (written : ℕ → Bool) (flags carry : Bool) (x : Option PairFacts) → KnownFits x → KnownFits (ended written flags carry x)
fits written flags carry None h = tt
fits written flags carry (Some f) h = record {
  count = length-ended written 0 f.intervals ∙ h.count;
  intervals = λ n lt. subst IntervalFits (sym (ended_at written f.intervals n)) (interval_fits (in_pair written (2 * n)) (interval_at f.intervals n) (h.intervals n lt));
  sum = sum_fits written carry f.sum h.sum;
  compare = compare_fits written flags f.compare h.compare;
  zero = zero_fits written flags f.zero h.zero;
}

-- ---- what is left holds after the write

compared_again : (half x y x' y' : ℕ) (c z s c' z' s' : Bool) → x' ≡ x → y' ≡ y → c' ≡ c → z' ≡ z → s' ≡ s → IsCompared half x y c z s → IsCompared half x' y' c' z' s'
compared_again half x y x' y' c z s c' z' s' ex ey ec ez es h = record {
  below = ec ∙ h.below ∙ ap₂ nat_lt (sym ex) (sym ey);
  equal = ez ∙ h.equal ∙ ap₂ (λ (a b : ℕ). a == b) (sym ex) (sym ey);
  less = es ∙ h.less ∙ ap₂ (signed_below half) (sym ex) (sym ey);
}

module _ (written : ℕ → Bool) (old new : List ℕ) (are : AreRegistersWritten written old new) where
  number_kept : (r : ℕ) → in_pair written r ≡ false → pair_number new r ≡ pair_number old r
  number_kept r e =
      let parts = or_parts (written r) (written (r + 1)) e in
      ap₂ (λ (x y : ℕ). x + 256 * y) (are.kept r parts.0) (are.kept (r + 1) parts.1)

  side_kept : (y : Side) → in_side written y ≡ false → side_byte new y ≡ side_byte old y
  side_kept (side.Byte k) e = refl
  side_kept (side.Register q) e = are.kept q e

  interval_holds : (i : Interval) (n : ℕ) → n < 16 → InInterval i (pair_number old (2 * n)) → (b : Bool) → in_pair written (2 * n) ≡ b
      → InInterval (if b then whole else i) (pair_number new (2 * n))
  interval_holds i n lt h true e = record { low = omega arith; high = omega (arith, are.bytes (2 * n) (omega (arith, lt)), are.bytes (2 * n + 1) (omega (arith, lt))) }
  interval_holds i n lt h false e = subst (InInterval i) (sym (number_kept (2 * n) e)) h

  module _ (c z s c' z' s' : Bool) where
    sum_holds : (b : Bool) → (b ≡ false → c' ≡ c) → (t : SumTag) → SumHolds old t c → SumHolds new (sum_ended written b t) c'
    sum_holds b kept sum.None h = tt
    sum_holds b kept (sum.Up r a d) h = by (b || in_pair written r) refl
      where
        by : (x : Bool) → (b || in_pair written r) ≡ x → SumHolds new (if x then sum.None else sum.Up r a d) c'
        by true e = tt
        by false e =
            let parts = or_parts b (in_pair written r) e in λ near.
            subst₂ (λ (w : ℕ) (x : Bool). LiesUp a d w (from_bool x)) (sym (number_kept r parts.1)) (sym (kept parts.0)) (h near)
    sum_holds b kept (sum.Down r a d) h = by (b || in_pair written r) refl
      where
        by : (x : Bool) → (b || in_pair written r) ≡ x → SumHolds new (if x then sum.None else sum.Down r a d) c'
        by true e = tt
        by false e =
            let parts = or_parts b (in_pair written r) e in λ near.
            subst₂ (λ (w : ℕ) (x : Bool). LiesDown a d w (from_bool x)) (sym (number_kept r parts.1)) (sym (kept parts.0)) (h near)

    module _ (b : Bool) (kept : b ≡ false → (c' ≡ c) × (z' ≡ z) × (s' ≡ s)) where
      compare_holds : (t : CompareTag) → CompareHolds old t c z s → CompareHolds new (compare_ended written b t) c' z' s'
      compare_holds compare.None h = tt
      compare_holds (compare.Byte x y) h = by (b || (written x || in_side written y)) refl
        where
          by : (t : Bool) → (b || (written x || in_side written y)) ≡ t → CompareHolds new (if t then compare.None else compare.Byte x y) c' z' s'
          by true e = tt
          by false e =
              let parts = or_parts b (written x || in_side written y) e in
              let sides = or_parts (written x) (in_side written y) parts.1 in
              let flags = kept parts.0 in
              compared_again 128 (slice_index old x) (side_byte old y) (slice_index new x) (side_byte new y) c z s c' z' s' (are.kept x sides.0) (side_kept y sides.1) flags.0 flags.1 flags.2 h
      compare_holds (compare.Pair r y p) h = by (b || (in_pair written r || (in_side written y || written p))) refl
        where
          by : (t : Bool) → (b || (in_pair written r || (in_side written y || written p))) ≡ t → CompareHolds new (if t then compare.None else compare.Pair r y p) c' z' s'
          by true e = tt
          by false e =
              let parts = or_parts b (in_pair written r || (in_side written y || written p)) e in
              let sides = or_parts (in_pair written r) (in_side written y || written p) parts.1 in
              let right = or_parts (in_side written y) (written p) sides.1 in
              let flags = kept parts.0 in
              compared_again 32768 (pair_number old r) (side_byte old y + 256 * slice_index old p) (pair_number new r) (side_byte new y + 256 * slice_index new p) c z s c' z' s'
              (number_kept r sides.0) (ap₂ (λ (u v : ℕ). u + 256 * v) (side_kept y right.0) (are.kept p right.1)) flags.0 flags.1 flags.2 h

      zero_holds : (t : ZeroTag) → ZeroHolds old t z → ZeroHolds new (zero_ended written b t) z'
      zero_holds zero_tag.None h = tt
      zero_holds (zero_tag.Byte x) h = by (b || written x) refl
        where
          by : (t : Bool) → (b || written x) ≡ t → ZeroHolds new (if t then zero_tag.None else zero_tag.Byte x) z'
          by true e = tt
          by false e =
              let parts = or_parts b (written x) e in
              (kept parts.0).1 ∙ h ∙ ap (λ (v : ℕ). v == 0) (sym (are.kept x parts.1))
      zero_holds (zero_tag.Pair r) h = by (b || in_pair written r) refl
        where
          by : (t : Bool) → (b || in_pair written r) ≡ t → ZeroHolds new (if t then zero_tag.None else zero_tag.Pair r) z'
          by true e = tt
          by false e =
              let parts = or_parts b (in_pair written r) e in
              (kept parts.0).1 ∙ h ∙ ap (λ (v : ℕ). v == 0) (sym (number_kept r parts.1))

holds : (written : ℕ → Bool) (flags carry : Bool) (x : Option PairFacts) (old new : List ℕ) (sreg sreg' : ℕ) → AreRegistersWritten written old new
    → AreFlagsWritten flags carry sreg sreg' → HoldsAt x old sreg → HoldsAt (ended written flags carry x) new sreg'
holds written flags carry None old new sreg sreg' are set h = tt
holds written flags carry (Some f) old new sreg sreg' are set h =
    let c = flag sreg 0 in
    let z = flag sreg 1 in
    let s = flag sreg 4 in
    let c' = flag sreg' 0 in
    let z' = flag sreg' 1 in
    let s' = flag sreg' 4 in
    record {
      intervals = λ n lt.
          subst (λ (i : Interval). InInterval i (pair_number new (2 * n))) (sym (ended_at written f.intervals n))
          (interval_holds written old new are (interval_at f.intervals n) n lt (h.intervals n lt) (in_pair written (2 * n)) refl);
      sum = sum_holds written old new are c z s c' z' s' carry set.carry_kept f.sum h.sum;
      compare = compare_holds written old new are c z s c' z' s' flags set.others_kept f.compare h.compare;
      zero = zero_holds written old new are c z s c' z' s' flags set.others_kept f.zero h.zero;
    }

-- ---- the hull of what is written

-- a property of each interval holds with one of them written, if that pair exists
each_written : (Q : ℕ → Interval → Type 0) (is : List Interval) (n : ℕ) (i : Interval) → length is ≡ 16 → (n < 16 → Q n i) → ((k : ℕ) → k < 16 → Q k (interval_at is k))
    → (k : ℕ) → k < 16 → Q k (interval_at (slice_set is n i) k)
each_written Q is n i count here rest k small =
    ⊎_elim (λ lt. each_interval Q is n i count lt (here lt) rest k small)
    (λ over. subst (Q k) (sym (interval_other is n k i (λ same. omega (arith, small, over, same)))) (rest k small)) (cases_lt n 16)

both_written : (is js : List Interval) (n : ℕ) (i j : Interval) → length is ≡ 16 → length js ≡ 16 → (n < 16 → IsIntervalWithin i j)
    → ((k : ℕ) → k < 16 → IsIntervalWithin (interval_at is k) (interval_at js k)) → (k : ℕ) → k < 16 → IsIntervalWithin (interval_at (slice_set is n i) k) (interval_at (slice_set js n j) k)
both_written is js n i j a b here rest k small =
    ⊎_elim (λ lt. both_intervals is js n i j a b lt (here lt) rest k small)
    (λ over.
    let apart : k ≢ n = λ same. omega (arith, small, over, same) in
    subst₂ IsIntervalWithin (sym (interval_other is n k i apart)) (sym (interval_other js n k j apart)) (rest k small)) (cases_lt n 16)

set_less : (v w : AbsByte) → IsByteWithin v w → IsSetWithin (set_of v) (set_of w)
set_less v w le = record { bits = le.bits; low = le.low; high = le.high }

hull_less : (vs ws : List AbsByte) (n : ℕ) → n < 16 → ((r : ℕ) → r < 32 → IsByteWithin (value_at vs r) (value_at ws r)) → IsIntervalWithin (hull_at vs n) (hull_at ws n)
hull_less vs ws n lt le =
    hulls_hold.more (set_of (value_at vs (2 * n))) (set_of (value_at vs (2 * n + 1))) (set_of (value_at ws (2 * n))) (set_of (value_at ws (2 * n + 1)))
    (set_less (value_at vs (2 * n)) (value_at ws (2 * n)) (le (2 * n) (omega (arith, lt))))
    (set_less (value_at vs (2 * n + 1)) (value_at ws (2 * n + 1)) (le (2 * n + 1) (omega (arith, lt))))

hull_fit : (registers : List AbsByte) (n : ℕ) → n < 16 → ((r : ℕ) → r < 32 → ByteFits (value_at registers r)) → IntervalFits (hull_at registers n)
hull_fit registers n lt each =
    let lo = each (2 * n) (omega (arith, lt)) in
    let hi = each (2 * n + 1) (omega (arith, lt)) in
    record {
      ordered = omega (arith, lo.ordered, hi.ordered);
      small = omega (arith, lo.high, hi.high, ranges_fit.most (value_at registers (2 * n)).bits, ranges_fit.most (value_at registers (2 * n + 1)).bits);
    }

hull_stands : (o : Origin) (values : List AbsByte) (registers : List ℕ) (n : ℕ) → n < 16 → RegistersStand o values registers → InInterval (hull_at values n) (pair_number registers (2 * n))
hull_stands o values registers n lt stand =
    let lo = stand (2 * n) (omega (arith, lt)) in
    let hi = stand (2 * n + 1) (omega (arith, lt)) in
    hulls_hold.holds (set_of (value_at values (2 * n))) (set_of (value_at values (2 * n + 1))) (slice_index registers (2 * n)) (slice_index registers (2 * n + 1))
    (record { bits = lo.bits; low = lo.low; high = lo.high; small = lo.small }) (record { bits = hi.bits; low = hi.low; high = hi.high; small = hi.small })

hull_more : (vs ws : List AbsByte) (a : ℕ) (x y : Option PairFacts) → HasSixteen x → HasSixteen y
    → ((r : ℕ) → r < 32 → IsByteWithin (value_at vs r) (value_at ws r)) → IsKnownWithin x y → IsKnownWithin (written_hull vs a x) (written_hull ws a y)
hull_more vs ws a x None m n each le = tt
hull_more vs ws a None (Some g) m n each le = absurd le
hull_more vs ws a (Some f) (Some g) m n each le = record {
  intervals = both_written f.intervals g.intervals (a / 2) (hull_at vs (a / 2)) (hull_at ws (a / 2)) m n (λ lt. hull_less vs ws (a / 2) lt each) le.intervals;
  sum = le.sum;
  compare = le.compare;
  zero = le.zero;
}

hull_fits : (registers : List AbsByte) (a : ℕ) (x : Option PairFacts) → ((r : ℕ) → r < 32 → ByteFits (value_at registers r)) → KnownFits x
    → KnownFits (written_hull registers a x)
hull_fits registers a None each h = tt
hull_fits registers a (Some f) each h = record {
  count = length-set f.intervals (a / 2) (hull_at registers (a / 2)) ∙ h.count;
  intervals =
      each_written (λ (k : ℕ) (i : Interval). IntervalFits i) f.intervals (a / 2) (hull_at registers (a / 2)) h.count (λ lt. hull_fit registers (a / 2) lt each) h.intervals;
  sum = h.sum;
  compare = h.compare;
  zero = h.zero;
}

hull_holds : (o : Origin) (values : List AbsByte) (registers : List ℕ) (a : ℕ) (x : Option PairFacts) (sreg : ℕ) → HasSixteen x
    → RegistersStand o values registers → HoldsAt x registers sreg → HoldsAt (written_hull values a x) registers sreg
hull_holds o values registers a None sreg m stand h = tt
hull_holds o values registers a (Some f) sreg m stand h = record {
  intervals =
      each_written (λ (k : ℕ) (i : Interval). InInterval i (pair_number registers (2 * k))) f.intervals (a / 2) (hull_at values (a / 2)) m
      (λ lt. hull_stands o values registers (a / 2) lt stand) h.intervals;
  sum = h.sum;
  compare = h.compare;
  zero = h.zero;
}

count : (written : ℕ → Bool) (flags carry : Bool) (x : Option PairFacts) → HasSixteen x → HasSixteen (ended written flags carry x)
count written flags carry None m = tt
count written flags carry (Some f) m = length-ended written 0 f.intervals ∙ m

hull_count : (registers : List AbsByte) (a : ℕ) (x : Option PairFacts) → HasSixteen x → HasSixteen (written_hull registers a x)
hull_count registers a None m = tt
hull_count registers a (Some f) m = length-set f.intervals (a / 2) (hull_at registers (a / 2)) ∙ m

followed : (written : ℕ → Bool) (flags carry : Bool) (x : Option PairFacts) → is_followed (ended written flags carry x) ≡ is_followed x
followed written flags carry None = refl
followed written flags carry (Some f) = refl

hull_followed : (registers : List AbsByte) (a : ℕ) (x : Option PairFacts) → is_followed (written_hull registers a x) ≡ is_followed x
hull_followed registers a None = refl
hull_followed registers a (Some f) = refl

pub writes_end_facts : WritesEndFacts
writes_end_facts = record {
  less = less;
  more = more;
  fits = fits;
  holds = holds;
  hull_more = hull_more;
  hull_fits = hull_fits;
  count = count;
  hull_holds = hull_holds;
  hull_count = hull_count;
  followed = followed;
  hull_followed = hull_followed;
}
