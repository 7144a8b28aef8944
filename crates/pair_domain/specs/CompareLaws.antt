-- Laws of comparisons: the flags after `cp` and `cpc`. A cut keeps each pair of numbers with the outcome, and is monotone.
use Rattle.std.specs.Prelude.{ℕ, ◌+◌, ◌*◌, ◌≡◌, ◌≢◌, ◌<◌, ◌≤◌, true, false, Option, Some}
use Rattle.avr_model.specs.Sreg.{flag}
use Rattle.avr_model.specs.Sums.{flags_of_difference}
use Rattle.pair_domain.specs.declared.intervals.Interval.{Interval}
use Rattle.pair_domain.specs.Intervals.{InInterval, IsIntervalWithin, interval_meet}
use Rattle.pair_domain.specs.Tags.{signed_below, IsCompared}
use Rattle.pair_domain.specs.Compare.{left_below, left_from, right_above, right_to, off, left_less, left_not_less}

-- something is left, and x is in it
abbrev pub KeepsMember : Option Interval → ℕ → Type 0
KeepsMember o x = (m : Interval) × ((o ≡ Some m) × InInterval m x)

-- if the first leaves something, the second leaves at least as much
abbrev pub LeavesMore : Option Interval → Option Interval → Type 0
LeavesMore o p = (m : Interval) → o ≡ Some m → (n : Interval) × ((p ≡ Some n) × IsIntervalWithin m n)

-- C and Z after a comparison of bytes, and after `cpc` of the high bytes
pub record ComparesAreTold : Type 0 where
  pub low : (x y sreg : ℕ) → x < 256 → y < 256
      → IsCompared 128 x y (flag (flags_of_difference x y false false sreg) 0) (flag (flags_of_difference x y false false sreg) 1) (flag (flags_of_difference x y false false sreg) 4)
  pub high : (x y v w sreg : ℕ) → x < 256 → y < 256 → v < 256 → w < 256 → IsCompared 128 x y (flag sreg 0) (flag sreg 1) (flag sreg 4)
      → IsCompared 32768 (x + 256 * v) (y + 256 * w) (flag (flags_of_difference v w (flag sreg 0) true sreg) 0) (flag (flags_of_difference v w (flag sreg 0) true sreg) 1)
      (flag (flags_of_difference v w (flag sreg 0) true sreg) 4)

pub record ComparesCut : Type 0 where
  pub below : (i j : Interval) (x y : ℕ) → InInterval i x → InInterval j y → x < y → KeepsMember (left_below i j) x × KeepsMember (right_above i j) y
  pub from : (i j : Interval) (x y : ℕ) → InInterval i x → InInterval j y → y ≤ x → KeepsMember (left_from i j) x × KeepsMember (right_to i j) y
  pub equal : (i j : Interval) (x : ℕ) → InInterval i x → InInterval j x → KeepsMember (interval_meet i j) x
  pub off : (i j : Interval) (x y : ℕ) → InInterval i x → InInterval j y → x ≢ y → KeepsMember (off i j) x
  pub less : (half : ℕ) (i j : Interval) (x y : ℕ) → 0 < half → i.high < 2 * half → j.high < 2 * half → InInterval i x → InInterval j y
      → signed_below half x y ≡ true → KeepsMember (left_less half i j) x
  pub not_less : (half : ℕ) (i j : Interval) (x y : ℕ) → 0 < half → i.high < 2 * half → j.high < 2 * half → InInterval i x → InInterval j y
      → signed_below half x y ≡ false → KeepsMember (left_not_less half i j) x

pub record CutsAreMonotone : Type 0 where
  pub below : (i j i' j' : Interval) → IsIntervalWithin i i' → IsIntervalWithin j j' → LeavesMore (left_below i j) (left_below i' j')
  pub above : (i j i' j' : Interval) → IsIntervalWithin i i' → IsIntervalWithin j j' → LeavesMore (right_above i j) (right_above i' j')
  pub from : (i j i' j' : Interval) → IsIntervalWithin i i' → IsIntervalWithin j j' → LeavesMore (left_from i j) (left_from i' j')
  pub to : (i j i' j' : Interval) → IsIntervalWithin i i' → IsIntervalWithin j j' → LeavesMore (right_to i j) (right_to i' j')
  pub off : (i j i' j' : Interval) → i.low ≤ i.high → j.low ≤ j.high → IsIntervalWithin i i' → IsIntervalWithin j j' → LeavesMore (off i j) (off i' j')
  pub less : (half : ℕ) (i j i' j' : Interval) → 0 < half → j.low ≤ j.high → j'.high < 2 * half → IsIntervalWithin i i' → IsIntervalWithin j j'
      → LeavesMore (left_less half i j) (left_less half i' j')
  pub not_less : (half : ℕ) (i j i' j' : Interval) → 0 < half → j.low ≤ j.high → j'.high < 2 * half → IsIntervalWithin i i' → IsIntervalWithin j j'
      → LeavesMore (left_not_less half i j) (left_not_less half i' j')
