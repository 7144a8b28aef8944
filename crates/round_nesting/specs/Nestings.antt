-- The nesting of a family's instances: its notes, and the verdict from them. Source: own.
use Rattle.std.specs.Prelude.{ℕ, ◌≡◌, ◌<◌, ◌≤◌, ◌↔◌, ◌⊎◌, List, [], length, Contains, Some, slice_get}
use Rattle.std.specs.FinMap.{len}
use Rattle.avr_model.specs.declared.device.Device.{Device}
use Rattle.avr_model.specs.Devices.{device_of, size_of}
use Rattle.node_keys.specs.declared.keys.InstKey.{InstKey}
use Rattle.node_keys.specs.declared.keys.NodeKey.{NodeKey}
use Rattle.node_keys.specs.declared.keys.SpForm.TheVariants.{Closed}
use Rattle.node_keys.specs.Keys.{root_inst}
use Rattle.local_rules.specs.declared.local.Node.{Node}
use Rattle.round_rules.specs.Families.{Family, FamilyHas, FamilyHasInst}
use Rattle.round_rules.specs.Rounds.{IsEntering, IsAcyclic, IsRootNeed, IsShallow}
use Rattle.round_rules.specs.Refusals.{IsReEntry, IsRecursion}
use Rattle.round_nesting.specs.declared.verdict.NestingVerdict.{NestingVerdict}
use Rattle.round_nesting.specs.declared.verdict.NestingVerdict.TheVariants.{Nests, ReEntry, Recursion, TooDeep}
use Rattle.local_rules.specs.Site.{Task}

-- ---- what is noted

-- an instance has a node with a whole stack pointer at this offset
pub record Spot : Type 0 where
  pub inst : InstKey
  pub offset : ℕ

-- the second instance lies below the first at this depth: a node of the first enters it, or it is cut and the first is the root
pub record Entrance : Type 0 where
  pub from : InstKey
  pub into : InstKey
  pub offset : ℕ

abbrev pub entrance_of : InstKey → InstKey → ℕ → Entrance
entrance_of from into offset = record { from = from; into = into; offset = offset }

-- the instances with nodes, the offsets of these nodes, and the entrances
pub record Noted : Type 0 where
  pub insts : List InstKey
  pub spots : List Spot
  pub entrances : List Entrance

abbrev pub nothing : Noted
nothing = record { insts = []; spots = []; entrances = [] }

-- no instance is noted twice
abbrev pub AreOnce : List InstKey → Type 0
AreOnce insts = (i j : ℕ) (inst : InstKey) → slice_get insts i ≡ Some inst → slice_get insts j ≡ Some inst → i ≡ j

-- the notes grew by a node of this key
pub record IsNodeNoted (old : Noted) (key : NodeKey) (new : Noted) : Type 0 where
  pub insts : (inst : InstKey) → Contains new.insts inst ↔ (Contains old.insts inst ⊎ (inst ≡ key.inst))
  pub spots : (s : Spot) → Contains new.spots s ↔ (Contains old.spots s ⊎ ((s.inst ≡ key.inst) × (key.sp ≡ Closed s.offset)))
  pub entrances : (e : Entrance) → Contains new.entrances e ↔ Contains old.entrances e

-- the notes grew by this entrance
pub record HasEntrance (old : Noted) (x : Entrance) (new : Noted) : Type 0 where
  pub insts : (inst : InstKey) → Contains new.insts inst ↔ Contains old.insts inst
  pub spots : (s : Spot) → Contains new.spots s ↔ Contains old.spots s
  pub entrances : (e : Entrance) → Contains new.entrances e ↔ (Contains old.entrances e ⊎ (e ≡ x))

-- both have the same notes
pub record AreAlike (m n : Noted) : Type 0 where
  pub insts : (inst : InstKey) → Contains m.insts inst ↔ Contains n.insts inst
  pub spots : (s : Spot) → Contains m.spots s ↔ Contains n.spots s
  pub entrances : (e : Entrance) → Contains m.entrances e ↔ Contains n.entrances e

-- ---- of which family

-- a node of the instance has a whole stack pointer at this offset
pub record IsSpotOf (f : Family) (s : Spot) : Type 0 where
  pub node : Node
  pub has : FamilyHas f node
  pub of : node.key.inst ≡ s.inst
  pub closed : node.key.sp ≡ Closed s.offset

-- the notes are exactly those of the family
pub record IsNestingOf (task : Task) (f : Family) (n : Noted) : Type 0 where
  pub insts : (inst : InstKey) → Contains n.insts inst ↔ FamilyHasInst f inst
  pub spots : (s : Spot) → Contains n.spots s ↔ IsSpotOf f s
  pub entrances : (e : Entrance) → Contains n.entrances e ↔ IsEntering task f e.from e.into e.offset

-- ---- what it tells

abbrev pub VerdictTells : Task → Family → NestingVerdict → Type 0
VerdictTells task f Nests = IsAcyclic task f × IsShallow task f
VerdictTells task f (ReEntry v word) = IsReEntry task f v word
VerdictTells task f (Recursion word) = IsRecursion task f word
VerdictTells task f (TooDeep d) = IsAcyclic task f × IsRootNeed task f d × (size_of (device_of task.flash) < d)

-- the verdict holds of each family with these notes in which the root has a node, on this device
abbrev pub TellsAll : Device → Noted → NestingVerdict → Type 0
TellsAll device n w =
    (task : Task) (f : Family) → device_of task.flash ≡ device → FamilyHasInst f root_inst → IsNestingOf task f n → VerdictTells task f w

-- ---- laws

-- at most as many instances are noted as the family has nodes
abbrev pub NestingsAreSmall : Type 0
NestingsAreSmall = (task : Task) (f : Family) (n : Noted) → IsNestingOf task f n → AreOnce n.insts → length n.insts ≤ len f
