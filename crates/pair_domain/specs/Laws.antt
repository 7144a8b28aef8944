-- Laws of intervals, tags of flags and facts: their order, joins as least upper bounds, that facts hold of more in a greater element, and
-- a height.
use Rattle.std.specs.Prelude.{ℕ, ◌+◌, ◌*◌, ◌≡◌, ◌<◌, ◌≤◌, ◌↔◌, ◌⊎◌, ◌&&◌, Bool, List, length, Option, Some, None}
use Rattle.bit_domain.specs.Ranges.{ByteSet, SetHas, IsSetWithin}
use Rattle.pair_domain.specs.declared.intervals.Interval.{Interval}
use Rattle.pair_domain.specs.declared.tags.SumTag.{SumTag}
use Rattle.pair_domain.specs.declared.tags.CompareTag.{CompareTag}
use Rattle.pair_domain.specs.declared.tags.ZeroTag.{ZeroTag}
use Rattle.pair_domain.specs.declared.facts.PairFacts.{PairFacts}
use Rattle.pair_domain.specs.Intervals.{InInterval, IsIntervalWithin, whole, interval_join, interval_meet, hull}
use Rattle.pair_domain.specs.Tags.{SumHolds, CompareHolds, ZeroHolds, IsSumTagWithin, IsCompareWithin, IsZeroWithin, IsNear, sum_join, compare_join, zero_join}
use Rattle.pair_domain.specs.Facts.{is_followed, nothing, FactsHold, AreFactsWithin, facts_join, AreLeastFactsAbove, HasSixteen, IsKnownNear, KnownHolds, IsKnownWithin, known_join}
use Rattle.pair_domain.specs.Rank.{FactsFit, KnownFits, facts_rank, facts_height, known_rank}

-- `within` is a partial order on intervals and a join is the least upper bound; a meet has exactly the numbers in both, lies below both
-- and is monotone
pub record IntervalsAreOrdered : Type 0 where
  pub same : (i : Interval) → IsIntervalWithin i i
  pub through : (i j k : Interval) → IsIntervalWithin i j → IsIntervalWithin j k → IsIntervalWithin i k
  pub both : (i j : Interval) → IsIntervalWithin i j → IsIntervalWithin j i → i ≡ j
  pub first : (i j : Interval) → IsIntervalWithin i (interval_join i j)
  pub second : (i j : Interval) → IsIntervalWithin j (interval_join i j)
  pub least : (i j k : Interval) → IsIntervalWithin i k → IsIntervalWithin j k → IsIntervalWithin (interval_join i j) k
  pub top : (i : Interval) → i.high < 65536 → IsIntervalWithin i whole

-- The meet of two intervals with a common number exists and has it. A meet is within both, and is monotone.
pub record IntervalsMeet : Type 0 where
  pub meets : (i j : Interval) (x : ℕ) → InInterval i x → InInterval j x → (m : Interval) × ((interval_meet i j ≡ Some m) × InInterval m x)
  pub under : (i j m : Interval) → interval_meet i j ≡ Some m → IsIntervalWithin m i × IsIntervalWithin m j
  pub ordered : (i j m : Interval) → interval_meet i j ≡ Some m → m.low ≤ m.high
  pub more : (i j i' j' m : Interval) → IsIntervalWithin i i' → IsIntervalWithin j j' → interval_meet i j ≡ Some m
      → (m' : Interval) × ((interval_meet i' j' ≡ Some m') × IsIntervalWithin m m')
  pub none : (i j : Interval) → i.low ≤ i.high → j.low ≤ j.high → interval_meet i j ≡ None ↔ ((x : ℕ) → InInterval i x → InInterval j x → ⊥)

-- the number of a pair lies in the hull of its bytes, and the hull is monotone
pub record HullsHold : Type 0 where
  pub holds : (lo hi : ByteSet) (x y : ℕ) → SetHas lo x → SetHas hi y → InInterval (hull lo hi) (x + 256 * y)
  pub more : (lo hi lo' hi' : ByteSet) → IsSetWithin lo lo' → IsSetWithin hi hi' → IsIntervalWithin (hull lo hi) (hull lo' hi')

-- `within` is a partial order on tags, for sum tags on those that are kept; a join is the least upper bound; a sum tag that isn't kept is
-- above all
pub record SumsAreOrdered : Type 0 where
  pub same : (t : SumTag) → IsSumTagWithin t t
  pub through : (t u v : SumTag) → IsSumTagWithin t u → IsSumTagWithin u v → IsSumTagWithin t v
  pub both : (t u : SumTag) → IsNear t → IsNear u → IsSumTagWithin t u → IsSumTagWithin u t → t ≡ u
  pub first : (t u : SumTag) → IsSumTagWithin t (sum_join t u)
  pub second : (t u : SumTag) → IsSumTagWithin u (sum_join t u)
  pub near : (t u : SumTag) → IsNear (sum_join t u)
  pub least : (t u v : SumTag) → IsSumTagWithin t v → IsSumTagWithin u v → IsSumTagWithin (sum_join t u) v
  pub wide : (t v : SumTag) → (IsNear v → ⊥) → IsSumTagWithin t v

pub record ComparesAreOrdered : Type 0 where
  pub same : (t : CompareTag) → IsCompareWithin t t
  pub through : (t u v : CompareTag) → IsCompareWithin t u → IsCompareWithin u v → IsCompareWithin t v
  pub both : (t u : CompareTag) → IsCompareWithin t u → IsCompareWithin u t → t ≡ u
  pub first : (t u : CompareTag) → IsCompareWithin t (compare_join t u)
  pub second : (t u : CompareTag) → IsCompareWithin u (compare_join t u)
  pub least : (t u v : CompareTag) → IsCompareWithin t v → IsCompareWithin u v → IsCompareWithin (compare_join t u) v

pub record ZerosAreOrdered : Type 0 where
  pub same : (t : ZeroTag) → IsZeroWithin t t
  pub through : (t u v : ZeroTag) → IsZeroWithin t u → IsZeroWithin u v → IsZeroWithin t v
  pub both : (t u : ZeroTag) → IsZeroWithin t u → IsZeroWithin u t → t ≡ u
  pub first : (t u : ZeroTag) → IsZeroWithin t (zero_join t u)
  pub second : (t u : ZeroTag) → IsZeroWithin u (zero_join t u)
  pub least : (t u v : ZeroTag) → IsZeroWithin t v → IsZeroWithin u v → IsZeroWithin (zero_join t u) v

-- `within` is a partial order on facts of sixteen pairs, a join is the least upper bound, and `nothing` is above all that fit
pub record FactsAreOrdered : Type 0 where
  pub same : (f : PairFacts) → AreFactsWithin f f
  pub through : (f g h : PairFacts) → AreFactsWithin f g → AreFactsWithin g h → AreFactsWithin f h
  pub both : (f g : PairFacts) → length f.intervals ≡ 16 → length g.intervals ≡ 16 → IsNear f.sum → IsNear g.sum → AreFactsWithin f g → AreFactsWithin g f → f ≡ g
  pub join : (f g : PairFacts) → length f.intervals ≡ 16 → length g.intervals ≡ 16 → AreLeastFactsAbove f g (facts_join f g)
  pub within : (f g : PairFacts) → length f.intervals ≡ 16 → length g.intervals ≡ 16 → IsNear f.sum → AreFactsWithin g f → facts_join f g ≡ f
  pub joins : (f g f' g' : PairFacts) → length f.intervals ≡ 16 → length g.intervals ≡ 16 → length f'.intervals ≡ 16 → length g'.intervals ≡ 16
      → AreFactsWithin f f' → AreFactsWithin g g' → AreFactsWithin (facts_join f g) (facts_join f' g')
  pub top : (f : PairFacts) → FactsFit f → AreFactsWithin f nothing

-- what holds of facts holds of greater ones, and `nothing` always holds
pub record FactsSayLess : Type 0 where
  pub interval : (i j : Interval) (x : ℕ) → IsIntervalWithin i j → InInterval i x → InInterval j x
  pub sum : (registers : List ℕ) (t u : SumTag) (c : Bool) → IsSumTagWithin t u → SumHolds registers t c → SumHolds registers u c
  pub compare : (registers : List ℕ) (t u : CompareTag) (c z s : Bool) → IsCompareWithin t u → CompareHolds registers t c z s → CompareHolds registers u c z s
  pub zero : (registers : List ℕ) (t u : ZeroTag) (z : Bool) → IsZeroWithin t u → ZeroHolds registers t z → ZeroHolds registers u z
  pub facts : (f g : PairFacts) (registers : List ℕ) (c z s : Bool) → AreFactsWithin f g → FactsHold f registers c z s → FactsHold g registers c z s

-- Greater facts are equal or of greater rank; no rank exceeds the height; joins fit.
pub record FactsRise : Type 0 where
  pub rises : (f g : PairFacts) → FactsFit f → FactsFit g → AreFactsWithin f g → (f ≡ g) ⊎ (facts_rank f < facts_rank g)
  pub high : (f : PairFacts) → FactsFit f → facts_rank f ≤ facts_height
  pub joins_fit : (f g : PairFacts) → FactsFit f → FactsFit g → FactsFit (facts_join f g)
  pub nothing_fits : FactsFit nothing

-- `FactsAreOrdered` and `FactsRise` for optional facts: none if pairs aren't followed.
pub record KnownIsOrdered : Type 0 where
  pub same : (x : Option PairFacts) → IsKnownWithin x x
  pub through : (x y w : Option PairFacts) → IsKnownWithin x y → IsKnownWithin y w → IsKnownWithin x w
  pub both : (x y : Option PairFacts) → HasSixteen x → HasSixteen y → IsKnownNear x → IsKnownNear y → IsKnownWithin x y → IsKnownWithin y x → x ≡ y
  pub first : (x y : Option PairFacts) → HasSixteen x → HasSixteen y → IsKnownWithin x (known_join x y)
  pub second : (x y : Option PairFacts) → HasSixteen x → HasSixteen y → IsKnownWithin y (known_join x y)
  pub least : (x y w : Option PairFacts) → HasSixteen x → HasSixteen y → IsKnownWithin x w → IsKnownWithin y w → IsKnownWithin (known_join x y) w
  pub within : (x y : Option PairFacts) → HasSixteen x → HasSixteen y → IsKnownNear x → IsKnownWithin y x → known_join x y ≡ x
  pub near : (x y : Option PairFacts) → IsKnownNear (known_join x y)
  pub sixteen : (x y : Option PairFacts) → HasSixteen x → HasSixteen y → HasSixteen (known_join x y)
  pub less : (x y : Option PairFacts) (registers : List ℕ) (c z s : Bool) → IsKnownWithin x y → KnownHolds x registers c z s → KnownHolds y registers c z s
  pub rises : (x y : Option PairFacts) → KnownFits x → KnownFits y → IsKnownWithin x y → (x ≡ y) ⊎ (known_rank x < known_rank y)
  pub high : (x : Option PairFacts) → KnownFits x → known_rank x ≤ facts_height + 1
  pub joins_fit : (x y : Option PairFacts) → KnownFits x → KnownFits y → KnownFits (known_join x y)
  pub count : (x : Option PairFacts) → KnownFits x → HasSixteen x
  pub kept : (x : Option PairFacts) → KnownFits x → IsKnownNear x
  pub followed : (x y : Option PairFacts) → is_followed (known_join x y) ≡ (is_followed x && is_followed y)
