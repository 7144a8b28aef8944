-- Intervals cut by the known outcome of a comparison. A cut is none if nothing is left. Source: own.
use Rattle.std.specs.Prelude.{ℕ, ◌+◌, ◌-◌, ◌*◌, ◌==◌, max, min, nat_lt, if◌then◌else◌, Option, Some, None}
use Rattle.pair_domain.specs.declared.intervals.Interval.{Interval}
use Rattle.pair_domain.specs.Intervals.{interval_join, interval_from}

-- ---- as whole numbers: x and y are the intervals of the left and of the right side

-- x if the left number is below the right one, and if it isn't
abbrev pub left_below : Interval → Interval → Option Interval
left_below x y = if y.high == 0 then None else interval_from x.low (min x.high (y.high - 1))

abbrev pub left_from : Interval → Interval → Option Interval
left_from x y = interval_from (max x.low y.low) x.high

-- y if the left number is below the right one, and if it isn't
abbrev pub right_above : Interval → Interval → Option Interval
right_above x y = interval_from (max y.low (x.low + 1)) y.high

abbrev pub right_to : Interval → Interval → Option Interval
right_to x y = interval_from y.low (min y.high x.high)

-- x without k, if k is an end of x
abbrev pub without : Interval → ℕ → Option Interval
without x k = interval_from (if x.low == k then k + 1 else x.low) (if x.high == k then k - 1 else x.high)

-- x if the two numbers differ; it is cut only if y has one member
abbrev pub off : Interval → Interval → Option Interval
off x y = if y.low == y.high then without x y.low else Some x

-- ---- as signed numbers, of which there are twice `half`

-- the greatest and the least number of y in the signed order
abbrev pub signed_greatest : ℕ → Interval → ℕ
signed_greatest half y = if nat_lt y.low half then min y.high (half - 1) else y.high

abbrev pub signed_least : ℕ → Interval → ℕ
signed_least half y = if nat_lt y.high half then y.low else max y.low half

-- the least interval with both parts
abbrev pub either : Option Interval → Option Interval → Option Interval
either None b = b
either (Some i) None = Some i
either (Some i) (Some j) = Some (interval_join i j)

-- the numbers of x from low to below end
abbrev pub part_of : Interval → ℕ → ℕ → Option Interval
part_of x low end = if end == 0 then None else interval_from (max x.low low) (min x.high (end - 1))

-- the numbers of x that are signed below g: the negative ones below g, or, if g isn't negative, all negative ones and those below g
abbrev pub signed_below_part : ℕ → Interval → ℕ → Option Interval
signed_below_part half x g = if nat_lt g half then either (part_of x half (2 * half)) (part_of x 0 g) else part_of x half g

-- the numbers of x that aren't signed below l
abbrev pub signed_from_part : ℕ → Interval → ℕ → Option Interval
signed_from_part half x l = if nat_lt l half then part_of x l half else either (part_of x l (2 * half)) (part_of x 0 half)

abbrev pub left_less : ℕ → Interval → Interval → Option Interval
left_less half x y = signed_below_part half x (signed_greatest half y)

abbrev pub left_not_less : ℕ → Interval → Interval → Option Interval
left_not_less half x y = signed_from_part half x (signed_least half y)
