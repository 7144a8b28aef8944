-- Marking of the words of vectors that are assumed never to be taken. Definitions for the contracts of internal functions.
use Rattle.std.specs.Prelude.{ℕ, ◌+◌, ◌≡◌, ◌<◌, ◌↔◌, ◌⊎◌, ◌&&◌, Bool, true, not, List, length, Some, slice_get}
use Rattle.avr_model.specs.Assumptions.{is_never}
use Rattle.avr_model.specs.Devices.{device_of}
use Rattle.avr_model.specs.Vectors.{is_enabled, enable_count, vector_word}
use Rattle.node_keys.specs.declared.keys.NodeKey.{NodeKey}
use Rattle.local_rules.specs.declared.local.Node.{Node}
use Rattle.clear_laws.specs.Reach.{is_on}
use Rattle.local_rules.specs.Site.{Task}

-- exactly the numbers with P are newly marked
pub record AreMarkedBeside (P : ℕ → Type 0) (old new : List Bool) : Type 0 where
  pub same : length new ≡ length old
  pub exact : (word : ℕ) → (is_on new word ≡ true) ↔ ((is_on old word ≡ true) ⊎ P word)

-- the vector is enabled, and its word has a `never` line
abbrev pub is_take : Task → NodeKey → ℕ → Bool
is_take task k v = is_enabled (device_of task.flash) k.masks v && is_never task.assumptions (vector_word (device_of task.flash) v)

-- one of this many vectors, from 2 on, is so, and this is its word
pub record IsTakenBelow (task : Task) (k : NodeKey) (count word : ℕ) : Type 0 where
  pub vector : ℕ
  pub below : vector < count + 2
  pub take : is_take task k vector ≡ true
  pub is : vector_word (device_of task.flash) vector ≡ word

-- one of all vectors is so
abbrev pub IsTakenAtAll : Task → NodeKey → ℕ → Type 0
IsTakenAtAll task k word = IsTakenBelow task k (enable_count (device_of task.flash)) word

-- an interrupt may be taken
abbrev pub may_take : NodeKey → Bool
may_take k = k.i && not k.delay

-- `IsTakenBelow`, if an interrupt may be taken
abbrev pub IsTakenFrom : Task → NodeKey → ℕ → Type 0
IsTakenFrom task k word = (may_take k ≡ true) × IsTakenBelow task k (enable_count (device_of task.flash)) word

-- `IsTakenFrom` for one of the first nodes
pub record IsTakenAt (task : Task) (nodes : List Node) (count word : ℕ) : Type 0 where
  pub at : ℕ
  pub node : Node
  pub below : at < count
  pub is : slice_get nodes at ≡ Some node
  pub taken : IsTakenFrom task node.key word
