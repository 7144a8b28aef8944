-- Transfer functions of a pair for sums, differences and products, over whole numbers and modulo 65,536. If a number could be negative,
-- 65,536 is added first, which changes nothing modulo 65,536. Source: own.
use Rattle.std.specs.Prelude.{ℕ, ◌+◌, ◌-◌, ◌*◌, ◌/◌, ◌%◌, ◌==◌, ⊤, if◌then◌else◌, Option, Some, None}
use Rattle.pair_domain.specs.declared.intervals.Interval.{Interval}
use Rattle.pair_domain.specs.declared.tags.SumTag.{SumTag}
use Rattle.pair_domain.specs.Intervals.{InInterval, IsIntervalWithin}
use Rattle.pair_domain.specs.Tags.{up_from, down_from}

-- ---- what is told

-- w is in the result; a result of none claims nothing
abbrev pub ToldHolds : Option Interval → ℕ → Type 0
ToldHolds None w = ⊤
ToldHolds (Some i) w = InInterval i w

-- the second result claims no more than the first
abbrev pub IsToldWithin : Option Interval → Option Interval → Type 0
IsToldWithin t None = ⊤
IsToldWithin None (Some j) = ⊥
IsToldWithin (Some i) (Some j) = IsIntervalWithin i j

-- the numbers from a to b modulo 65,536, if a and b have one quotient by it
abbrev pub modulo : ℕ → ℕ → Option Interval
modulo a b = if a / 65536 == b / 65536 then Some (record { low = a % 65536; high = b % 65536 }) else None

-- ---- the pair of i, and a number or a byte from n to m

-- an interval plus k, and less k
abbrev pub moved_up : Interval → ℕ → Option Interval
moved_up i k = modulo (i.low + k) (i.high + k)

abbrev pub moved_down : Interval → ℕ → Option Interval
moved_down i k = modulo (i.low + (65536 - k)) (i.high + (65536 - k))

-- the byte is added to the high byte, or subtracted from it
abbrev pub pages_up : Interval → ℕ → ℕ → Option Interval
pages_up i n m = modulo (i.low + 256 * n) (i.high + 256 * m)

abbrev pub pages_down : Interval → ℕ → ℕ → Option Interval
pages_down i n m = modulo (i.low + (65536 - 256 * m)) (i.high + (65536 - 256 * n))

-- the tag after the byte is added to the low byte of pair r, or subtracted from it; the carry into the high byte is still due
abbrev pub up_tag : ℕ → Interval → ℕ → ℕ → SumTag
up_tag r i n m = up_from r (i.low + n + 256) (i.high + m + 256)

abbrev pub down_tag : ℕ → Interval → ℕ → ℕ → SumTag
down_tag r i n m = down_from r (i.low + (256 - m)) (i.high + (256 - n))

-- the number after the byte and the carry or borrow are applied to the high byte, from the ends of the tag
abbrev pub carried_up : ℕ → ℕ → ℕ → ℕ → Option Interval
carried_up a b n m = modulo (a + (65280 + 256 * n)) (b + (65280 + 256 * m))

abbrev pub carried_down : ℕ → ℕ → ℕ → ℕ → Option Interval
carried_down a b n m = modulo (a + (65280 - 256 * m)) (b + (65280 - 256 * n))

-- the product of a byte from n to m and one from n' to m'
abbrev pub product : ℕ → ℕ → ℕ → ℕ → Interval
product n m n' m' = record { low = n * n'; high = m * m' }
