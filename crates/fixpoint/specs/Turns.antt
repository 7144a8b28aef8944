-- The rounds and worklist iteration, which go on in turns. Source: own.
use Rattle.std.specs.Prelude.{ℕ, ◌-◌, Option}
use Rattle.round_rules.specs.Families.{Family}
use Rattle.round_laws.specs.Steps.{weight}
use Rattle.fixpoint.specs.declared.ordering.Walk.{Walk}
use Rattle.fixpoint.specs.declared.rounds.Rounds.{Rounds}
use Rattle.fixpoint.specs.Order.{IsUnderWay}
use Rattle.fixpoint.specs.Progress.{RoundsProgress}
use Rattle.local_rules.specs.Site.{Task}

-- the rounds after some number of them
abbrev pub AreUnderWay : Task → Option ℕ → Rounds → Type 0
AreUnderWay task steps r = RoundsProgress task steps r.left r.table r.counted r.work.items r.notes

-- worklist iteration after some visits
abbrev pub IsOnItsWay : Task → Walk → Type 0
IsOnItsWay task w = IsUnderWay task w.table w.counted w.notes

-- how far the weight can rise: 1,123,085 for each of the most cells that a family within the limits has, and one
abbrev pub room : Family → ℕ
room f = 9421119815681 - weight f
