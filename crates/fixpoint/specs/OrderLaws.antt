-- Families built in any order, and how that ends.
use Rattle.std.specs.Prelude.{ℕ, ◌≡◌, List, None, Contains}
use Rattle.avr_model.specs.Assumptions.{has_pairs}
use Rattle.avr_model.specs.Devices.{device_of}
use Rattle.local_rules.specs.declared.local.Node.{Node}
use Rattle.local_laws.specs.Laws.{AreNodesIn}
use Rattle.round_rules.specs.Families.{Family, AreFormed, IsClosed, cells}
use Rattle.round_rules.specs.Rounds.{first, PassesTests}
use Rattle.round_nesting.specs.Nestings.{AreOnce}
use Rattle.round_laws.specs.Steps.{raised_all}
use Rattle.round_steps.specs.declared.looking.Look.{Look}
use Rattle.round_steps.specs.declared.noting.Notes.{Notes}
use Rattle.round_steps.specs.Looks.{IsLook}
use Rattle.round_steps.specs.Notings.{blank, AreNoted}
use Rattle.round_steps.specs.Targets.{all_targets}
use Rattle.round_steps.specs.Gathers.{AreBeyond}
use Rattle.fixpoint.specs.Progress.{AreRoundsFound}
use Rattle.round_laws.specs.Closed.{IsMade}
use Rattle.fixpoint.specs.Order.{WereTrue, IsUnderWay}
use Rattle.local_rules.specs.Site.{Task}

pub record OrdersEnd : Type 0 where
  pub begins : (task : Task) (count : ℕ) → count ≡ cells (first task.assumptions) → IsUnderWay task (first task.assumptions) count blank
  -- what visits of some nodes find is added to the notes
  pub noted : (task : Task) (f : Family) (old new : Notes) (xs : List Look) → AreFormed (device_of task.flash) (has_pairs task.assumptions) f → WereTrue task f old
      → ((x : Look) → Contains xs x → IsLook task f x) → AreNoted task.assumptions old xs new → WereTrue task f new
  -- the targets of visited nodes are nodes of the analysis
  pub nodes : (task : Task) (f : Family) (notes : Notes) (xs : List Look) → AreFormed (device_of task.flash) (has_pairs task.assumptions) f → WereTrue task f notes
      → ((x : Look) → Contains xs x → IsLook task f x) → AreNodesIn (device_of task.flash) (has_pairs task.assumptions) (all_targets f notes xs)
  -- these are joined into the family
  pub goes_on : (task : Task) (f : Family) (count : ℕ) (notes : Notes) (xs : List Look) (items : List Node) → IsMade task f
      → WereTrue task f notes → AreOnce notes.nesting.insts → ((x : Look) → Contains xs x → IsLook task f x) → AreBeyond (device_of task.flash) (has_pairs task.assumptions) f (all_targets f notes xs) items
      → count ≡ cells (raised_all f items) → IsUnderWay task (raised_all f items) count notes
  -- if such a family is closed and no test holds on it, the rounds end there
  pub ends : (task : Task) (f : Family) → IsMade task f → IsClosed task f → PassesTests task f → AreRoundsFound task None f
