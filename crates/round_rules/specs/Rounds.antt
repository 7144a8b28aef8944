-- The rounds. Family 0 is the root's node after reset. The next family is one joined with the targets of all its edges.
use Rattle.std.specs.Prelude.{ℕ, zero, suc, ◌+◌, ◌≡◌, ◌<◌, ◌≤◌, List}
use Rattle.std.specs.FinMap.{insert, empty}
use Rattle.avr_model.specs.declared.assumption.Entry.{Entry}
use Rattle.avr_model.specs.Assumptions.{has_pairs}
use Rattle.avr_model.specs.Devices.{device_of, size_of, back_of}
use Rattle.node_keys.specs.declared.keys.InstKey.{InstKey}
use Rattle.node_keys.specs.declared.keys.SpForm.TheVariants.{Closed}
use Rattle.node_keys.specs.Keys.{root_inst, entry_key}
use Rattle.local_rules.specs.declared.local.Node.{Node}
use Rattle.edge_rules.specs.Nest.{NestEdge}
use Rattle.edge_rules.specs.Roots.{root_of}
use Rattle.round_rules.specs.Families.{Family, FamilyHas, Below, AreFormed, HasNoFault, LandIn, IsClosed, FitsLimits}
use Rattle.local_rules.specs.Site.{Task}

-- ---- which instance lies below which

-- the second instance lies below the first in the nest of the family, at this depth
abbrev pub IsEntering : Task → Family → InstKey → InstKey → ℕ → Type 0
IsEntering task f i j depth = NestEdge task (FamilyHas f) i j depth

-- one or more edges of the nest lead from the first instance to the second
pub data Reaches (task : Task) (f : Family) : InstKey → InstKey → Type 0 where
  once : (i j : InstKey) (offset : ℕ) → IsEntering task f i j offset → Reaches task f i j
  more : (i j k : InstKey) (offset : ℕ) → IsEntering task f i j offset → Reaches task f j k → Reaches task f i k

abbrev pub IsAcyclic : Task → Family → Type 0
IsAcyclic task f = (i : InstKey) → Reaches task f i i → ⊥

-- an instance's rank is above that of each instance that lies below it
abbrev pub AreRanks : Task → Family → (InstKey → ℕ) → Type 0
AreRanks task f rank = (i j : InstKey) (offset : ℕ) → IsEntering task f i j offset → rank j < rank i

-- An instance's need is at least the offset of each of its closed nodes, and at least the need of each instance below it plus its depth
-- and the bytes of a return address. An instance without nodes may have any need.
pub record AreNeeds (task : Task) (f : Family) (need : InstKey → ℕ) : Type 0 where
  pub offsets : (n : Node) (offset : ℕ) → FamilyHas f n → n.key.sp ≡ Closed offset → offset ≤ need n.key.inst
  pub entered : (i j : InstKey) (offset : ℕ) → IsEntering task f i j offset → offset + back_of (device_of task.flash) + need j ≤ need i

-- the least need of the root
pub record IsRootNeed (task : Task) (f : Family) (d : ℕ) : Type 0 where
  pub need : InstKey → ℕ
  pub are : AreNeeds task f need
  pub is : need root_inst ≡ d
  pub least : (other : InstKey → ℕ) → AreNeeds task f other → d ≤ other root_inst

-- the root's least need is at most the size of the device's SRAM: some needs are
pub record IsShallow (task : Task) (f : Family) : Type 0 where
  pub need : InstKey → ℕ
  pub are : AreNeeds task f need
  pub small : need root_inst ≤ size_of (device_of task.flash)

-- ---- rounds

abbrev pub first : List Entry → Family
first A = insert empty (entry_key root_inst) (root_of A)

-- g is f joined with the targets of all its edges: the least family above f to which they lead
pub record IsNext (task : Task) (f g : Family) : Type 0 where
  pub formed : AreFormed (device_of task.flash) (has_pairs task.assumptions) g
  pub above : Below f g
  pub edges : LandIn task f g
  pub least : (h : Family) → Below f h → LandIn task f h → Below g h

-- no test holds on the family
pub record PassesTests (task : Task) (f : Family) : Type 0 where
  pub fits : FitsLimits f
  pub faultless : HasNoFault task f
  pub acyclic : IsAcyclic task f
  pub shallow : IsShallow task f

-- family n of the rounds is f
abbrev pub Comes : Task → ℕ → Family → Type 0
Comes task zero f = f ≡ first task.assumptions
Comes task (suc n) g = (f : Family) × Comes task n f × PassesTests task f × (IsClosed task f → ⊥) × IsNext task f g
