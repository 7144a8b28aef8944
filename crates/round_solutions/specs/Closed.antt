-- The law of families built in an order other than by rounds.
use Rattle.std.specs.Prelude.{ℕ}
use Rattle.round_rules.specs.Families.{Family, IsClosed}
use Rattle.round_rules.specs.Rounds.{PassesTests}
use Rattle.round_rules.specs.Refusals.{IsSolved}
use Rattle.round_laws.specs.Closed.{IsMade, HaveRounds}
use Rattle.local_rules.specs.Site.{Task}

-- The edges of each family without faults can be listed. So a family is solved if it is built from the first one by targets of its own
-- edges, is closed, and no test holds on it: the rounds end at it.
pub record ClosedFamiliesAreSolved : Type 0 where
  pub rounds : (task : Task) → HaveRounds task
  pub solved : (task : Task) (f : Family) → IsMade task f → IsClosed task f → PassesTests task f → (n : ℕ) × IsSolved task n f
