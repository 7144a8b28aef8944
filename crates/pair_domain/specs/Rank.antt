-- The rank of facts: high - low of each interval and of the sum tag, and one for each missing compare and zero tag. The ends of a sum tag
-- have five hexadecimal digits. Source: own.
use Rattle.std.specs.Prelude.{ℕ, ◌+◌, ◌-◌, ◌*◌, ◌%◌, ◌≡◌, ◌<◌, ◌≤◌, ⊤, List, [], ◌∷◌, length, Option, Some, None}
use Rattle.pair_domain.specs.declared.intervals.Interval.{Interval}
use Rattle.pair_domain.specs.declared.tags.SumTag.{SumTag}
use Rattle.pair_domain.specs.declared.tags.SumTag.TheVariants as sum
use Rattle.pair_domain.specs.declared.tags.Side.{Side}
use Rattle.pair_domain.specs.declared.tags.Side.TheVariants as side
use Rattle.pair_domain.specs.declared.tags.CompareTag.{CompareTag}
use Rattle.pair_domain.specs.declared.tags.CompareTag.TheVariants as compare
use Rattle.pair_domain.specs.declared.tags.ZeroTag.{ZeroTag}
use Rattle.pair_domain.specs.declared.tags.ZeroTag.TheVariants as zero
use Rattle.pair_domain.specs.declared.facts.PairFacts.{PairFacts}
use Rattle.pair_domain.specs.Facts.{interval_at}

-- ---- facts that the analysis works with

pub record IntervalFits (i : Interval) : Type 0 where
  pub ordered : i.low ≤ i.high
  pub small : i.high < 65536

-- r is the low register of a pair
pub record IsPair (r : ℕ) : Type 0 where
  pub register : r < 32
  pub even : r % 2 ≡ 0

-- r is the low register of a pair, and the ends are ordered, are kept and have five hexadecimal digits
pub record EndsFit (r a b : ℕ) : Type 0 where
  pub pair : IsPair r
  pub ordered : a ≤ b
  pub near : b < a + 65535
  pub small : b < 1048576

abbrev pub SumFits : SumTag → Type 0
SumFits sum.None = ⊤
SumFits (sum.Up r a b) = EndsFit r a b
SumFits (sum.Down r a b) = EndsFit r a b

abbrev pub SideFits : Side → Type 0
SideFits (side.Byte k) = k < 256
SideFits (side.Register q) = q < 32

-- the tag names some of the 32 registers, and pairs of them
abbrev pub CompareFits : CompareTag → Type 0
CompareFits compare.None = ⊤
CompareFits (compare.Byte x y) = (x < 32) × SideFits y
CompareFits (compare.Pair r y p) = IsPair r × SideFits y × (p < 32)

abbrev pub ZeroFits : ZeroTag → Type 0
ZeroFits zero.None = ⊤
ZeroFits (zero.Byte x) = x < 32
ZeroFits (zero.Pair r) = IsPair r

pub record FactsFit (f : PairFacts) : Type 0 where
  pub count : length f.intervals ≡ 16
  pub intervals : (n : ℕ) → n < 16 → IntervalFits (interval_at f.intervals n)
  pub sum : SumFits f.sum
  pub compare : CompareFits f.compare
  pub zero : ZeroFits f.zero

-- ---- rank

abbrev pub interval_rank : Interval → ℕ
interval_rank i = i.high - i.low

abbrev pub sum_rank : SumTag → ℕ
sum_rank sum.None = 65535
sum_rank (sum.Up r a b) = b - a
sum_rank (sum.Down r a b) = b - a

abbrev pub compare_rank : CompareTag → ℕ
compare_rank compare.None = 1
compare_rank (compare.Byte x y) = 0
compare_rank (compare.Pair r y p) = 0

abbrev pub zero_rank : ZeroTag → ℕ
zero_rank zero.None = 1
zero_rank (zero.Byte x) = 0
zero_rank (zero.Pair r) = 0

abbrev pub intervals_rank : List Interval → ℕ
intervals_rank [] = 0
intervals_rank (i ∷ is) = interval_rank i + intervals_rank is

abbrev pub facts_rank : PairFacts → ℕ
facts_rank f = intervals_rank f.intervals + sum_rank f.sum + compare_rank f.compare + zero_rank f.zero

-- the greatest rank of facts
abbrev pub facts_height : ℕ
facts_height = 17 * 65535 + 2

abbrev pub KnownFits : Option PairFacts → Type 0
KnownFits None = ⊤
KnownFits (Some f) = FactsFit f

-- pairs that aren't followed have the greatest rank
abbrev pub known_rank : Option PairFacts → ℕ
known_rank None = facts_height + 1
known_rank (Some f) = facts_rank f
