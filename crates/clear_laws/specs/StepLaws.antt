-- Laws of flagged steps.
use Rattle.std.specs.Prelude.{ℕ, ◌⊎◌, ◌≡◌, ◌↔◌, ◌<◌, Bool, true, false, List, Contains}
use Rattle.avr_model.specs.Devices.{device_of}
use Rattle.avr_model.specs.declared.choice.Choice.{Choice}
use Rattle.avr_model.specs.declared.choice.Flag.{Flag}
use Rattle.avr_model.specs.declared.choice.Stop.TheVariants as stop
use Rattle.avr_model.specs.State.{State, IsReset}
use Rattle.avr_model.specs.Run.{IsRun, stop_of}
use Rattle.node_keys.specs.declared.keys.NodeKey.{NodeKey}
use Rattle.node_keys.specs.Keys.{offset_of}
use Rattle.local_rules.specs.declared.local.Node.{Node}
use Rattle.local_rules.specs.Machine.{AreWords}
use Rattle.edge_rules.specs.Families.{RankedFamily, IsSoundFamily}
use Rattle.clear_laws.specs.Held.{MayHold, IsMapClosed}
use Rattle.clear_laws.specs.Clear.{IsClear, MayBeFlagged, MayBeTaken, EndsByTake, NeverFlagged, word_of_flag, is_clear}
use Rattle.clear_laws.specs.Causes.{HasCause, MayFlag}
use Rattle.local_rules.specs.Site.{Task}

-- A run from reset that ends flagged ends at the word of a node that isn't clear, with the cause of the flag, or takes a vector whose
-- word has a `never` line. So no run ends flagged if each node is clear and no such vector may be taken.
pub record FlaggedRunsAreTold : Type 0 where
  pub caused : (task : Task) (f : RankedFamily) (m : State) (choices : List Choice) (flag : Flag) → AreWords task.flash → IsSoundFamily task f
      → IsReset (device_of task.flash) m → IsRun task.flash task.assumptions choices m → stop_of task.flash task.assumptions choices m ≡ stop.Flag flag
      → MayFlag task f flag ⊎ EndsByTake task f.nodes m choices
  pub told : (task : Task) (f : RankedFamily) (m : State) (choices : List Choice) (flag : Flag) → AreWords task.flash → IsSoundFamily task f
      → IsReset (device_of task.flash) m → IsRun task.flash task.assumptions choices m → stop_of task.flash task.assumptions choices m ≡ stop.Flag flag
      → MayBeFlagged task f (word_of_flag flag) ⊎ EndsByTake task f.nodes m choices
  pub never : (task : Task) (f : RankedFamily) → AreWords task.flash → IsSoundFamily task f → ((n : Node) → Contains f.nodes n → IsClear task f n)
      → ((word : ℕ) → MayBeTaken task f.nodes word → ⊥) → NeverFlagged task

-- The slots that may hold a live byte are in every map that the rules preserve, and below the node's offset.
pub record HeldSlotsAreLeast : Type 0 where
  pub least : (task : Task) (nodes : List Node) (may : NodeKey → ℕ → Bool) (k : NodeKey) (d : ℕ)
      → IsMapClosed task nodes may → MayHold task nodes k d → may k d ≡ true
  pub below : (task : Task) (nodes : List Node) (k : NodeKey) (d : ℕ) → MayHold task nodes k d → d < offset_of k.sp

-- The test for clear nodes uses one for slots that may hold a live byte. A node that passes is clear if the slots' test has all of them.
-- A clear node passes if it has no others.
pub record ClearNodesAreTold : Type 0 where
  pub clear : (task : Task) (f : RankedFamily) (n : Node) (held : ℕ → Bool)
      → ((d : ℕ) → d < offset_of n.key.sp → held d ≡ false → MayHold task f.nodes n.key d → ⊥) → is_clear task f.bound n held ≡ true → IsClear task f n
  pub told : (task : Task) (f : RankedFamily) (n : Node) (held : ℕ → Bool)
      → ((d : ℕ) → d < offset_of n.key.sp → held d ≡ true → MayHold task f.nodes n.key d) → IsClear task f n → is_clear task f.bound n held ≡ true

-- A word has a cause exactly if some node there isn't clear.
abbrev pub PlacesHaveCauses : Type 0
PlacesHaveCauses = (task : Task) (f : RankedFamily) (pc : ℕ) → MayBeFlagged task f pc ↔ HasCause task f pc
