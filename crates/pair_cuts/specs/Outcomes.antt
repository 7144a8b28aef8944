-- The intervals x and y of two sides, cut by the outcome of their comparison; none if nothing is left. Source: own.
use Rattle.std.specs.Prelude.{ℕ, ◌==◌, Bool, true, false, if◌then◌else◌, Option, Some, None}
use Rattle.pair_domain.specs.declared.intervals.Interval.{Interval}
use Rattle.pair_domain.specs.Intervals.{interval_meet}
use Rattle.pair_domain.specs.Compare.{left_below, left_from, right_above, right_to, off, left_less, left_not_less}
use Rattle.pair_cuts.specs.declared.outcomes.Outcome.{Outcome}
use Rattle.pair_cuts.specs.declared.outcomes.Outcome.TheVariants as outcome

-- the left side; there are 2 * `half` signed numbers
abbrev pub left_part : Outcome → ℕ → Interval → Interval → Option Interval
left_part outcome.Below half x y = left_below x y
left_part outcome.NotBelow half x y = left_from x y
left_part outcome.Equal half x y = interval_meet x y
left_part outcome.NotEqual half x y = off x y
left_part outcome.Less half x y = left_less half x y
left_part outcome.NotLess half x y = left_not_less half x y

-- the right side
abbrev pub right_part : Outcome → Interval → Interval → Option Interval
right_part outcome.Below x y = right_above x y
right_part outcome.NotBelow x y = right_to x y
right_part outcome.Equal x y = interval_meet x y
right_part outcome.NotEqual x y = off y x
right_part outcome.Less x y = Some y
right_part outcome.NotLess x y = Some y

-- the outcome that a flag implies if it is b; flags other than C, Z and S imply none
abbrev pub outcome_if : Outcome → Outcome → Bool → Option Outcome
outcome_if on other true = Some on
outcome_if on other false = Some other

abbrev pub outcome_of : ℕ → Bool → Option Outcome
outcome_of n b =
    if n == 0 then outcome_if outcome.Below outcome.NotBelow b
    else (if n == 1 then outcome_if outcome.Equal outcome.NotEqual b
    else (if n == 4 then outcome_if outcome.Less outcome.NotLess b
    else None))
