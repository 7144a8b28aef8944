-- Reading and spelling are inverse.
use Rattle.std.specs.Prelude.{ℕ, ◌≡◌, ◌<◌, ◌++◌, List, length, Some}
use Rattle.std.specs.List.{AllByRecursion}
use Rattle.line_reading.specs.Words.{IsWord}
use Rattle.pair_domain.specs.declared.intervals.Interval.{Interval}
use Rattle.pair_domain.specs.declared.facts.PairFacts.{PairFacts}
use Rattle.pair_domain.specs.Intervals.{IsIntervalWithin}
use Rattle.pair_domain.specs.Facts.{interval_at}
use Rattle.pair_domain.specs.Rank.{IntervalFits, FactsFit}
use Rattle.pair_words.specs.Spelling.{facts_words}
use Rattle.pair_words.specs.Reading.{facts_at}

-- hulls of sixteen pairs
pub record AreHulls (hulls : List Interval) : Type 0 where
  pub count : length hulls ≡ 16
  pub each : (n : ℕ) → n < 16 → IntervalFits (interval_at hulls n)

-- facts that fit, with intervals within these hulls
pub record FitWithin (hulls : List Interval) (f : PairFacts) : Type 0 where
  pub fit : FactsFit f
  pub within : (n : ℕ) → n < 16 → IsIntervalWithin (interval_at f.intervals n) (interval_at hulls n)

pub record FactsWords : Type 0 where
  pub spelled : (hulls : List Interval) (ws rest : List (List ℕ)) (f : PairFacts) → AreHulls hulls → facts_at hulls ws ≡ Some (f, rest)
      → (ws ≡ facts_words hulls f ++ rest) × FitWithin hulls f
  pub read : (hulls : List Interval) (f : PairFacts) (rest : List (List ℕ)) → AreHulls hulls → FitWithin hulls f
      → facts_at hulls (facts_words hulls f ++ rest) ≡ Some (f, rest)
  pub words : (hulls : List Interval) (f : PairFacts) → AreHulls hulls → FitWithin hulls f → AllByRecursion IsWord (facts_words hulls f)
