-- The facts of the pair domain: intervals of all pairs, and tags of the flags. Source: own.
use Rattle.std.specs.Prelude.{ℕ, ◌*◌, ◌≡◌, ◌<◌, ⊤, Bool, true, false, List, [], ◌∷◌, length, replicate, slice_index_or, Box, Option, Some, None}
use Rattle.std.specs.Global.{Global}
use Rattle.pair_domain.specs.declared.intervals.Interval.{Interval}
use Rattle.pair_domain.specs.declared.tags.SumTag.TheVariants as sum
use Rattle.pair_domain.specs.declared.tags.CompareTag.TheVariants as compare
use Rattle.pair_domain.specs.declared.tags.ZeroTag.TheVariants as zero
use Rattle.pair_domain.specs.declared.facts.PairFacts.{PairFacts}
use Rattle.pair_domain.specs.Intervals.{whole, InInterval, IsIntervalWithin, interval_join}
use Rattle.pair_domain.specs.Tags.{pair_number, SumHolds, CompareHolds, ZeroHolds, IsSumTagWithin, IsCompareWithin, IsZeroWithin, IsNear, sum_join, compare_join, zero_join}

-- the top element: any interval, no tag
abbrev pub nothing : PairFacts
nothing = record { intervals = replicate 16 whole; sum = sum.None; compare = compare.None; zero = zero.None }

-- the facts behind the box
abbrev pub seen : Option (Box PairFacts Global) → Option PairFacts
seen None = None
seen (Some known) = Some known.value

-- the interval of pair 2 n
abbrev pub interval_at : List Interval → ℕ → Interval
interval_at intervals n = slice_index_or intervals n whole

-- ---- what they say

abbrev pub IntervalsHold : List Interval → List ℕ → Type 0
IntervalsHold intervals registers = (n : ℕ) → n < 16 → InInterval (interval_at intervals n) (pair_number registers (2 * n))

-- the facts hold of the registers and of C, Z and S
pub record FactsHold (f : PairFacts) (registers : List ℕ) (c z s : Bool) : Type 0 where
  pub intervals : IntervalsHold f.intervals registers
  pub sum : SumHolds registers f.sum c
  pub compare : CompareHolds registers f.compare c z s
  pub zero : ZeroHolds registers f.zero z

-- ---- order and join

-- each fact of g is at least as weak as that of f
pub record AreFactsWithin (f g : PairFacts) : Type 0 where
  pub intervals : (n : ℕ) → n < 16 → IsIntervalWithin (interval_at f.intervals n) (interval_at g.intervals n)
  pub sum : IsSumTagWithin f.sum g.sum
  pub compare : IsCompareWithin f.compare g.compare
  pub zero : IsZeroWithin f.zero g.zero

-- joins the intervals pair by pair
unfoldable pub intervals_join : List Interval → List Interval → List Interval
intervals_join [] js = []
intervals_join (i ∷ is) [] = []
intervals_join (i ∷ is) (j ∷ js) = interval_join i j ∷ intervals_join is js

abbrev pub facts_join : PairFacts → PairFacts → PairFacts
facts_join f g =
    record {
      intervals = intervals_join f.intervals g.intervals;
      sum = sum_join f.sum g.sum;
      compare = compare_join f.compare g.compare;
      zero = zero_join f.zero g.zero;
    }

-- u is the least upper bound of f and g
pub record AreLeastFactsAbove (f g u : PairFacts) : Type 0 where
  pub first : AreFactsWithin f u
  pub second : AreFactsWithin g u
  pub least : (v : PairFacts) → AreFactsWithin f v → AreFactsWithin g v → AreFactsWithin u v

-- ---- where pairs are followed, and where they aren't

-- facts hold; a state that doesn't follow pairs claims nothing
abbrev pub KnownHolds : Option PairFacts → List ℕ → Bool → Bool → Bool → Type 0
KnownHolds None registers c z s = ⊤
KnownHolds (Some f) registers c z s = FactsHold f registers c z s

abbrev pub HasSixteen : Option PairFacts → Type 0
HasSixteen None = ⊤
HasSixteen (Some f) = length f.intervals ≡ 16

abbrev pub IsKnownNear : Option PairFacts → Type 0
IsKnownNear None = ⊤
IsKnownNear (Some f) = IsNear f.sum

-- sixteen intervals, and a sum tag whose ends are kept
pub record AreFactsKept (x : Option PairFacts) : Type 0 where
  pub sixteen : HasSixteen x
  pub near : IsKnownNear x

abbrev pub is_followed : Option PairFacts → Bool
is_followed None = false
is_followed (Some f) = true

-- these facts, if pairs are followed
abbrev pub known_set : Option PairFacts → PairFacts → Option PairFacts
known_set None g = None
known_set (Some f) g = Some g

-- none is above all facts
abbrev pub IsKnownWithin : Option PairFacts → Option PairFacts → Type 0
IsKnownWithin x None = ⊤
IsKnownWithin None (Some g) = ⊥
IsKnownWithin (Some f) (Some g) = AreFactsWithin f g

abbrev pub known_join : Option PairFacts → Option PairFacts → Option PairFacts
known_join None y = None
known_join (Some f) None = None
known_join (Some f) (Some g) = Some (facts_join f g)
