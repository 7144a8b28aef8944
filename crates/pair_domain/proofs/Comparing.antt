-- Cuts by comparisons.
use Rattle.std.proofs.Common.{◌≡◌, ◌≢◌, refl, sym, ap, subst, ℕ, ◌+◌, ◌-◌, ◌*◌, ◌<◌, ◌≤◌, ◌⊎◌, inl, inr, max, min, Bool, true, false, Option, Some, None, arith}
use Rattle.std.specs.Prelude.{◌==◌, nat_lt, if◌then◌else◌}
use Rattle.std.proofs.lemmas.Bool.{eqb-true, eqb-false, eq-eqb, ne_eqb, false≢true, cases_lt}
use Rattle.std.proofs.lemmas.Bool.Decides.{nat_tests}
use Rattle.pair_domain.specs.declared.intervals.Interval.{Interval}
use Rattle.pair_domain.specs.Intervals.{InInterval, IsIntervalWithin, interval_from, interval_join}
use Rattle.pair_domain.specs.Tags.{signed_place}
use Rattle.pair_domain.specs.Compare.{left_below, without, off, signed_greatest, signed_least, either, part_of, signed_below_part, signed_from_part}
use Rattle.pair_domain.specs.CompareLaws.{KeepsMember, LeavesMore, ComparesCut, CutsAreMonotone}
use Rattle.pair_domain.proofs.Ordered.{there, is_from, intervals_meet}

-- ---- from one number to another

from_keeps : (lo hi x : ℕ) → lo ≤ x → x ≤ hi → KeepsMember (interval_from lo hi) x
from_keeps lo hi x down up = (record { low = lo; high = hi }, (there lo hi (omega (arith, down, up)), record { low = down; high = up }))

from_more : (lo hi lo' hi' : ℕ) → lo' ≤ lo → hi ≤ hi' → LeavesMore (interval_from lo hi) (interval_from lo' hi')
from_more lo hi lo' hi' down up m e =
    let is = is_from lo hi m e in
    (record { low = lo'; high = hi' }, (there lo' hi' (omega (arith, is.low, is.high, is.ordered, down, up)), record { low = omega (arith, is.low, down); high = omega (arith, is.high, up) }))

-- ---- up to below a number

keeps_unless : (b : Bool) (o : Option Interval) (x : ℕ) → b ≡ false → KeepsMember o x → KeepsMember (if b then None else o) x
keeps_unless false o x e k = k
keeps_unless true o x e k = absurd (false≢true (sym e))

more_unless : (b b' : Bool) (o o' : Option Interval) → (b' ≡ true → b ≡ true) → LeavesMore o o' → LeavesMore (if b then None else o) (if b' then None else o')
more_unless true b' o o' over more m e = absurd (cc)
more_unless false false o o' over more m e = more m e
more_unless false true o o' over more m e = absurd (false≢true (over refl))

part_keeps : (i : Interval) (low end x : ℕ) → InInterval i x → low ≤ x → x < end → KeepsMember (part_of i low end) x
part_keeps i low end x h down up =
    keeps_unless (end == 0) (interval_from (max i.low low) (min i.high (end - 1))) x (ne_eqb end 0 (omega (arith, up)))
    (from_keeps (max i.low low) (min i.high (end - 1)) x (omega (arith, h.low, down)) (omega (arith, h.high, up)))

part_more : (i i' : Interval) (low end low' end' : ℕ) → IsIntervalWithin i i' → low' ≤ low → end ≤ end' → LeavesMore (part_of i low end) (part_of i' low' end')
part_more i i' low end low' end' le down up =
    more_unless (end == 0) (end' == 0) (interval_from (max i.low low) (min i.high (end - 1))) (interval_from (max i'.low low') (min i'.high (end' - 1)))
    (λ e. let z = eqb-true end' 0 e in eq-eqb end 0 (omega (arith, z, up)))
    (from_more (max i.low low) (min i.high (end - 1)) (max i'.low low') (min i'.high (end' - 1)) (omega (arith, le.low, down)) (omega (arith, le.high, up)))

below_keeps : (i j : Interval) (x y : ℕ) → InInterval i x → InInterval j y → x < y → KeepsMember (left_below i j) x
below_keeps i j x y a b lt =
    keeps_unless (j.high == 0) (interval_from i.low (min i.high (j.high - 1))) x (ne_eqb j.high 0 (omega (arith, lt, b.high)))
    (from_keeps i.low (min i.high (j.high - 1)) x a.low (omega (arith, a.high, b.high, lt)))

below_more : (i j i' j' : Interval) → IsIntervalWithin i i' → IsIntervalWithin j j' → LeavesMore (left_below i j) (left_below i' j')
below_more i j i' j' a b =
    more_unless (j.high == 0) (j'.high == 0) (interval_from i.low (min i.high (j.high - 1))) (interval_from i'.low (min i'.high (j'.high - 1)))
    (λ e. let z = eqb-true j'.high 0 e in eq-eqb j.high 0 (omega (arith, z, b.high)))
    (from_more i.low (min i.high (j.high - 1)) i'.low (min i'.high (j'.high - 1)) a.low (omega (arith, a.high, b.high)))

-- ---- all but one number

low_end : (l k x : ℕ) → l ≤ x → x ≢ k → (if l == k then k + 1 else l) ≤ x
low_end l k x le ne = by (l == k) refl
  where
    by : (b : Bool) → (l == k) ≡ b → (if b then k + 1 else l) ≤ x
    by true e = let same = eqb-true l k e in omega (arith, same, le, ne)
    by false e = le

high_end : (h k x : ℕ) → x ≤ h → x ≢ k → x ≤ (if h == k then k - 1 else h)
high_end h k x le ne = by (h == k) refl
  where
    by : (b : Bool) → (h == k) ≡ b → x ≤ (if b then k - 1 else h)
    by true e = let same = eqb-true h k e in omega (arith, same, le, ne)
    by false e = le

off_keeps : (i j : Interval) (x y : ℕ) → InInterval i x → InInterval j y → x ≢ y → KeepsMember (off i j) x
off_keeps i j x y a b ne = by (j.low == j.high) refl
  where
    by : (t : Bool) → (j.low == j.high) ≡ t → KeepsMember (if t then without i j.low else Some i) x
    by false e = (i, (refl, a))
    by true e =
        let one = eqb-true j.low j.high e in
        let other : x ≢ j.low = λ same. ne (omega (arith, same, one, b.low, b.high)) in
        from_keeps (if i.low == j.low then j.low + 1 else i.low) (if i.high == j.low then j.low - 1 else i.high) x (low_end i.low j.low x a.low other) (high_end i.high j.low x a.high other)

-- cuts of ends are monotone
low_less : (l l' k : ℕ) → l' ≤ l → (if l' == k then k + 1 else l') ≤ (if l == k then k + 1 else l)
low_less l l' k le = by (l == k) (l' == k) refl refl
  where
    by : (b b' : Bool) → (l == k) ≡ b → (l' == k) ≡ b' → (if b' then k + 1 else l') ≤ (if b then k + 1 else l)
    by true true e f = omega arith
    by true false e f = let same = eqb-true l k e in omega (arith, same, le)
    by false true e f = let same = eqb-true l' k f in let other = eqb-false l k e in omega (arith, same, other, le)
    by false false e f = le

high_less : (h h' k : ℕ) → h ≤ h' → (if h == k then k - 1 else h) ≤ (if h' == k then k - 1 else h')
high_less h h' k le = by (h == k) (h' == k) refl refl
  where
    by : (b b' : Bool) → (h == k) ≡ b → (h' == k) ≡ b' → (if b then k - 1 else h) ≤ (if b' then k - 1 else h')
    by true true e f = omega arith
    by true false e f = let same = eqb-true h k e in omega (arith, same, le)
    by false true e f = let same = eqb-true h' k f in let other = eqb-false h k e in omega (arith, same, other, le)
    by false false e f = le

under_without : (i m : Interval) (k : ℕ) → without i k ≡ Some m → IsIntervalWithin m i
under_without i m k e =
    let is = is_from (if i.low == k then k + 1 else i.low) (if i.high == k then k - 1 else i.high) m e in
    record { low = omega (arith, is.low, low_over (i.low == k) refl); high = omega (arith, is.high, high_under (i.high == k) refl) }
  where
    low_over : (b : Bool) → (i.low == k) ≡ b → i.low ≤ (if b then k + 1 else i.low)
    low_over true e = let same = eqb-true i.low k e in omega (arith, same)
    low_over false e = omega arith

    high_under : (b : Bool) → (i.high == k) ≡ b → (if b then k - 1 else i.high) ≤ i.high
    high_under true e = let same = eqb-true i.high k e in omega (arith, same)
    high_under false e = omega arith

interval_through : (i j k : Interval) → IsIntervalWithin i j → IsIntervalWithin j k → IsIntervalWithin i k
interval_through i j k a b = record { low = omega (arith, a.low, b.low); high = omega (arith, a.high, b.high) }

off_more : (i j i' j' : Interval) → i.low ≤ i.high → j.low ≤ j.high → IsIntervalWithin i i' → IsIntervalWithin j j' → LeavesMore (off i j) (off i' j')
off_more i j i' j' p q a b = by (j.low == j.high) (j'.low == j'.high) refl refl
  where
    by : (t t' : Bool) → (j.low == j.high) ≡ t → (j'.low == j'.high) ≡ t' → LeavesMore (if t then without i j.low else Some i) (if t' then without i' j'.low else Some i')
    by true false e f m is = (i', (refl, interval_through m i i' (under_without i m j.low is) a))
    by false false e f m is = let P : Interval → Type 0 = λ n. IsIntervalWithin n i' in let same : i ≡ m = cc in (i', (refl, subst P same a))
    by false true e f m is =
        let one = eqb-true j'.low j'.high f in
        let two = eqb-false j.low j.high e in
        absurd (two (omega (arith, one, b.low, b.high, q)))
    by true true e f m is =
        let one = eqb-true j'.low j'.high f in
        let same : j.low ≡ j'.low = omega (arith, one, b.low, b.high, q) in
        let P : ℕ → Type 0 = λ k. LeavesMore (without i j.low) (without i' k) in
        let more : P j'.low =
        subst P same
        (from_more (if i.low == j.low then j.low + 1 else i.low) (if i.high == j.low then j.low - 1 else i.high) (if i'.low == j.low then j.low + 1 else i'.low)
        (if i'.high == j.low then j.low - 1 else i'.high) (low_less i.low i'.low j.low a.low) (high_less i.high i'.high j.low a.high)) in
        more m is

-- ---- two parts

first_keeps : (o p : Option Interval) (x : ℕ) → KeepsMember o x → KeepsMember (either o p) x
first_keeps None p x k = absurd (let e = k.1.0 in cc)
first_keeps (Some i) None x k = k
first_keeps (Some i) (Some j) x k =
    let same : i ≡ k.0 = cc in
    let h = subst (λ (n : Interval). InInterval n x) (sym same) k.1.1 in
    (interval_join i j, (refl, record { low = omega (arith, h.low); high = omega (arith, h.high) }))

second_keeps : (o p : Option Interval) (x : ℕ) → KeepsMember p x → KeepsMember (either o p) x
second_keeps None p x k = k
second_keeps (Some i) None x k = absurd (let e = k.1.0 in cc)
second_keeps (Some i) (Some j) x k =
    let same : j ≡ k.0 = cc in
    let h = subst (λ (n : Interval). InInterval n x) (sym same) k.1.1 in
    (interval_join i j, (refl, record { low = omega (arith, h.low); high = omega (arith, h.high) }))

first_there : (o p : Option Interval) (n : Interval) → o ≡ Some n → (k : Interval) × ((either o p ≡ Some k) × IsIntervalWithin n k)
first_there None p n e = absurd (cc)
first_there (Some i) None n e = (n, (e, record { low = omega arith; high = omega arith }))
first_there (Some i) (Some j) n e =
    let same : i ≡ n = cc in
    (interval_join i j, (refl, subst (λ (k : Interval). IsIntervalWithin k (interval_join i j)) same (record { low = omega arith; high = omega arith })))

second_there : (o p : Option Interval) (n : Interval) → p ≡ Some n → (k : Interval) × ((either o p ≡ Some k) × IsIntervalWithin n k)
second_there None p n e = (n, (e, record { low = omega arith; high = omega arith }))
second_there (Some i) None n e = absurd (cc)
second_there (Some i) (Some j) n e =
    let same : j ≡ n = cc in
    (interval_join i j, (refl, subst (λ (k : Interval). IsIntervalWithin k (interval_join i j)) same (record { low = omega arith; high = omega arith })))

either_some : (o p : Option Interval) (n k : Interval) → o ≡ Some n → p ≡ Some k → either o p ≡ Some (interval_join n k)
either_some o p n k e f = λ i. either (e i) (f i)

either_more : (o p o' p' : Option Interval) → LeavesMore o o' → LeavesMore p p' → LeavesMore (either o p) (either o' p')
either_more None None o' p' more more' m e = absurd (cc)
either_more None (Some j) o' p' more more' m e =
    let n = more' m e in
    let k = second_there o' p' n.0 n.1.0 in
    (k.0, (k.1.0, interval_through m n.0 k.0 n.1.1 k.1.1))
either_more (Some i) None o' p' more more' m e =
    let n = more m e in
    let k = first_there o' p' n.0 n.1.0 in
    (k.0, (k.1.0, interval_through m n.0 k.0 n.1.1 k.1.1))
either_more (Some i) (Some j) o' p' more more' m e =
    let a = more i refl in
    let b = more' j refl in
    let same : interval_join i j ≡ m = cc in (
      interval_join a.0 b.0,
      (
        either_some o' p' a.0 b.0 a.1.0 b.1.0,
        subst (λ (k : Interval). IsIntervalWithin k (interval_join a.0 b.0)) same (record { low = omega (arith, a.1.1.low, b.1.1.low); high = omega (arith, a.1.1.high, b.1.1.high) }),
      ),
    )

more_first : (o o' p' : Option Interval) → LeavesMore o o' → LeavesMore o (either o' p')
more_first o o' p' more m e =
    let n = more m e in
    let k = first_there o' p' n.0 n.1.0 in
    (k.0, (k.1.0, interval_through m n.0 k.0 n.1.1 k.1.1))

more_second : (o o' p' : Option Interval) → LeavesMore o p' → LeavesMore o (either o' p')
more_second o o' p' more m e =
    let n = more m e in
    let k = second_there o' p' n.0 n.1.0 in
    (k.0, (k.1.0, interval_through m n.0 k.0 n.1.1 k.1.1))

-- ---- signed numbers

is_below : (a b : ℕ) → a < b → nat_lt a b ≡ true
is_below a b lt = grind (arith, nat_tests)

isnt_below : (a b : ℕ) → b ≤ a → nat_lt a b ≡ false
isnt_below a b le = grind (arith, nat_tests)

was_below : (a b : ℕ) → nat_lt a b ≡ true → a < b
was_below a b e = grind (arith, nat_tests)

wasnt_below : (a b : ℕ) → nat_lt a b ≡ false → b ≤ a
wasnt_below a b e = grind (arith, nat_tests)

module _ (half : ℕ) where
  place_low : (x : ℕ) → x < half → signed_place half x ≡ x + half
  place_low x lt = ap (λ (b : Bool). if b then x + half else x - half) (is_below x half lt)

  place_high : (x : ℕ) → half ≤ x → signed_place half x ≡ x - half
  place_high x le = ap (λ (b : Bool). if b then x + half else x - half) (isnt_below x half le)

  -- each number is at most the signed greatest, and at least the least
  greatest_place : (j : Interval) (y : ℕ) → 0 < half → j.high < 2 * half → InInterval j y
      → (signed_place half y ≤ signed_place half (signed_greatest half j)) × (signed_greatest half j < 2 * half)
  greatest_place j y pos small h = by (nat_lt j.low half) refl (cases_lt j.high half) (cases_lt y half)
    where
      by : (b : Bool) → nat_lt j.low half ≡ b → (j.high < half) ⊎ (half ≤ j.high) → (y < half) ⊎ (half ≤ y)
          → (signed_place half y ≤ signed_place half (if b then min j.high (half - 1) else j.high)) × ((if b then min j.high (half - 1) else j.high) < 2 * half)
      by true e one (inl lt) =
          (omega (arith, place_low y lt, place_low (min j.high (half - 1)) (omega (arith, pos)), h.high, pos), omega (arith, pos))
      by true e one (inr ge) = (omega (arith, place_high y ge, place_low (min j.high (half - 1)) (omega (arith, pos)), h.high, small, ge, pos), omega (arith, pos))
      by false e one (inl lt) = absurd (omega (arith, wasnt_below j.low half e, h.low, lt))
      by false e one (inr ge) = (omega (arith, place_high y ge, place_high j.high (omega (arith, ge, h.high)), h.high), small)

  least_place : (j : Interval) (y : ℕ) → 0 < half → j.high < 2 * half → InInterval j y
      → (signed_place half (signed_least half j) ≤ signed_place half y) × (signed_least half j < 2 * half)
  least_place j y pos small h = by (nat_lt j.high half) refl (cases_lt y half)
    where
      by : (b : Bool) → nat_lt j.high half ≡ b → (y < half) ⊎ (half ≤ y)
          → (signed_place half (if b then j.low else max j.low half) ≤ signed_place half y) × ((if b then j.low else max j.low half) < 2 * half)
      by true e (inl lt) = (omega (arith, place_low y lt, place_low j.low (omega (arith, h.low, lt)), h.low), omega (arith, h.low, lt))
      by true e (inr ge) = absurd (omega (arith, was_below j.high half e, h.high, ge))
      by false e (inl lt) = (omega (arith, place_low y lt, place_high (max j.low half) (omega arith), h.low, lt), omega (arith, h.low, lt, pos))
      by false e (inr ge) = (omega (arith, place_high y ge, place_high (max j.low half) (omega arith), h.low, ge), omega (arith, h.low, h.high, small, ge))

  below_part_keeps : (i : Interval) (g x : ℕ) → g < 2 * half → i.high < 2 * half → InInterval i x → signed_place half x < signed_place half g → KeepsMember (signed_below_part half i g) x
  below_part_keeps i g x small all h lt = by (nat_lt g half) refl (cases_lt x half)
    where
      by : (b : Bool) → nat_lt g half ≡ b → (x < half) ⊎ (half ≤ x) → KeepsMember (if b then either (part_of i half (2 * half)) (part_of i 0 g) else part_of i half g) x
      by true e (inl low) =
          second_keeps (part_of i half (2 * half)) (part_of i 0 g) x
          (part_keeps i 0 g x h (omega arith) (omega (arith, lt, place_low x low, place_low g (was_below g half e))))
      by true e (inr high) =
          first_keeps (part_of i half (2 * half)) (part_of i 0 g) x (part_keeps i half (2 * half) x h high (omega (arith, h.high, all)))
      by false e (inl low) = absurd (omega (arith, lt, place_low x low, place_high g (wasnt_below g half e), small))
      by false e (inr high) = part_keeps i half g x h high (omega (arith, lt, place_high x high, place_high g (wasnt_below g half e), high))

  from_part_keeps : (i : Interval) (l x : ℕ) → l < 2 * half → i.high < 2 * half → InInterval i x → signed_place half l ≤ signed_place half x → KeepsMember (signed_from_part half i l) x
  from_part_keeps i l x small all h le = by (nat_lt l half) refl (cases_lt x half)
    where
      by : (b : Bool) → nat_lt l half ≡ b → (x < half) ⊎ (half ≤ x) → KeepsMember (if b then part_of i l half else either (part_of i l (2 * half)) (part_of i 0 half)) x
      by true e (inl low) = part_keeps i l half x h (omega (arith, le, place_low x low, place_low l (was_below l half e))) low
      by true e (inr high) = absurd (omega (arith, le, place_high x high, place_low l (was_below l half e), h.high, all))
      by false e (inl low) = second_keeps (part_of i l (2 * half)) (part_of i 0 half) x (part_keeps i 0 half x h (omega arith) low)
      by false e (inr high) =
          first_keeps (part_of i l (2 * half)) (part_of i 0 half) x
          (part_keeps i l (2 * half) x h (omega (arith, le, place_high x high, place_high l (wasnt_below l half e), wasnt_below l half e, high)) (omega (arith, h.high, all)))

  below_part_more : (i i' : Interval) (g g' : ℕ) → g < 2 * half → g' < 2 * half → IsIntervalWithin i i' → signed_place half g ≤ signed_place half g'
      → LeavesMore (signed_below_part half i g) (signed_below_part half i' g')
  below_part_more i i' g g' small small' a le = by (nat_lt g half) (nat_lt g' half) refl refl
    where
      by : (b b' : Bool) → nat_lt g half ≡ b → nat_lt g' half ≡ b'
          → LeavesMore (if b then either (part_of i half (2 * half)) (part_of i 0 g) else part_of i half g) (if b' then either (part_of i' half (2 * half)) (part_of i' 0 g') else part_of i' half g')
      by true true e f =
          either_more (part_of i half (2 * half)) (part_of i 0 g) (part_of i' half (2 * half)) (part_of i' 0 g')
          (part_more i i' half (2 * half) half (2 * half) a (omega arith) (omega arith))
          (part_more i i' 0 g 0 g' a (omega arith) (omega (arith, le, place_low g (was_below g half e), place_low g' (was_below g' half f))))
      by true false e f = absurd (omega (arith, le, place_low g (was_below g half e), place_high g' (wasnt_below g' half f), small'))
      by false true e f =
          more_first (part_of i half g) (part_of i' half (2 * half)) (part_of i' 0 g') (part_more i i' half g half (2 * half) a (omega arith) (omega (arith, small)))
      by false false e f =
          part_more i i' half g half g' a (omega arith)
          (omega (arith, le, place_high g (wasnt_below g half e), place_high g' (wasnt_below g' half f), wasnt_below g half e, wasnt_below g' half f))

  from_part_more : (i i' : Interval) (l l' : ℕ) → l < 2 * half → l' < 2 * half → IsIntervalWithin i i' → signed_place half l' ≤ signed_place half l
      → LeavesMore (signed_from_part half i l) (signed_from_part half i' l')
  from_part_more i i' l l' small small' a le = by (nat_lt l half) (nat_lt l' half) refl refl
    where
      by : (b b' : Bool) → nat_lt l half ≡ b → nat_lt l' half ≡ b'
          → LeavesMore (if b then part_of i l half else either (part_of i l (2 * half)) (part_of i 0 half)) (if b' then part_of i' l' half else either (part_of i' l' (2 * half)) (part_of i' 0 half))
      by true true e f = part_more i i' l half l' half a (omega (arith, le, place_low l (was_below l half e), place_low l' (was_below l' half f))) (omega arith)
      by true false e f =
          more_second (part_of i l half) (part_of i' l' (2 * half)) (part_of i' 0 half) (part_more i i' l half 0 half a (omega arith) (omega arith))
      by false true e f = absurd (omega (arith, le, place_high l (wasnt_below l half e), place_low l' (was_below l' half f), small))
      by false false e f =
          either_more (part_of i l (2 * half)) (part_of i 0 half) (part_of i' l' (2 * half)) (part_of i' 0 half)
          (part_more i i' l (2 * half) l' (2 * half) a
          (omega (arith, le, place_high l (wasnt_below l half e), place_high l' (wasnt_below l' half f), wasnt_below l half e, wasnt_below l' half f)) (omega arith))
          (part_more i i' 0 half 0 half a (omega arith) (omega arith))

  -- the greatest and the least number of an interval in the signed order are its members
  greatest_in : (j : Interval) → 0 < half → j.low ≤ j.high → InInterval j (signed_greatest half j)
  greatest_in j pos ordered = by (nat_lt j.low half) refl
    where
      by : (b : Bool) → nat_lt j.low half ≡ b → InInterval j (if b then min j.high (half - 1) else j.high)
      by true e = record { low = omega (arith, ordered, was_below j.low half e); high = omega arith }
      by false e = record { low = ordered; high = omega arith }

  least_in : (j : Interval) → j.low ≤ j.high → InInterval j (signed_least half j)
  least_in j ordered = by (nat_lt j.high half) refl
    where
      by : (b : Bool) → nat_lt j.high half ≡ b → InInterval j (if b then j.low else max j.low half)
      by true e = record { low = omega arith; high = ordered }
      by false e = record { low = omega arith; high = omega (arith, ordered, wasnt_below j.high half e) }

in_more : (j j' : Interval) (x : ℕ) → IsIntervalWithin j j' → InInterval j x → InInterval j' x
in_more j j' x le h = record { low = omega (arith, le.low, h.low); high = omega (arith, le.high, h.high) }

pub compares_cut : ComparesCut
compares_cut = record {
  below = λ i j x y a b lt. (
    below_keeps i j x y a b lt,
    from_keeps (max j.low (i.low + 1)) j.high y (omega (arith, a.low, b.low, lt)) b.high,
  );
  from = λ i j x y a b le. (
    from_keeps (max i.low j.low) i.high x (omega (arith, a.low, b.low, le)) a.high,
    from_keeps j.low (min j.high i.high) y b.low (omega (arith, a.high, b.high, le)),
  );
  equal = λ i j x a b. intervals_meet.meets i j x a b;
  off = off_keeps;
  less = λ half i j x y pos all small a b lt.
      let g = greatest_place half j y pos small b in
      below_part_keeps half i (signed_greatest half j) x g.1 all a (omega (arith, was_below (signed_place half x) (signed_place half y) lt, g.0));
  not_less = λ half i j x y pos all small a b ge.
      let l = least_place half j y pos small b in
      from_part_keeps half i (signed_least half j) x l.1 all a (omega (arith, wasnt_below (signed_place half x) (signed_place half y) ge, l.0));
}

pub cuts_are_monotone : CutsAreMonotone
cuts_are_monotone = record {
  below = below_more;
  above = λ i j i' j' a b. from_more (max j.low (i.low + 1)) j.high (max j'.low (i'.low + 1)) j'.high (omega (arith, a.low, b.low)) b.high;
  from = λ i j i' j' a b. from_more (max i.low j.low) i.high (max i'.low j'.low) i'.high (omega (arith, a.low, b.low)) a.high;
  to = λ i j i' j' a b. from_more j.low (min j.high i.high) j'.low (min j'.high i'.high) b.low (omega (arith, a.high, b.high));
  off = off_more;
  less = λ half i j i' j' pos ordered small a b.
      let there = greatest_in half j pos ordered in
      let g = greatest_place half j (signed_greatest half j) pos (omega (arith, small, b.high)) there in
      let g' = greatest_place half j' (signed_greatest half j) pos small (in_more j j' (signed_greatest half j) b there) in
      below_part_more half i i' (signed_greatest half j) (signed_greatest half j') g.1 g'.1 a g'.0;
  not_less = λ half i j i' j' pos ordered small a b.
      let there = least_in half j ordered in
      let l = least_place half j (signed_least half j) pos (omega (arith, small, b.high)) there in
      let l' = least_place half j' (signed_least half j) pos small (in_more j j' (signed_least half j) b there) in
      from_part_more half i i' (signed_least half j) (signed_least half j') l.1 l'.1 a l'.0;
}
