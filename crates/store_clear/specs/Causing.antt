-- The causes at a word, node by node. Definitions for the contracts of internal functions.
use Rattle.std.specs.Prelude.{ℕ, ◌+◌, ◌≡◌, ◌<◌, ◌==◌, ◌&&◌, ◌↔◌, Bool, true, not, List, [], map, Some, Contains, slice_get}
use Rattle.avr_model.specs.declared.instruction.Instr.{Instr}
use Rattle.avr_model.specs.Devices.{guarded_end, device_of}
use Rattle.node_keys.specs.declared.keys.NodeKey.{NodeKey}
use Rattle.local_rules.specs.declared.local.Node.{Node}
use Rattle.edge_rules.specs.Families.{RankedFamily}
use Rattle.certificate.specs.Claims.{Claim}
use Rattle.clear_laws.specs.Causes.{may_write_protected, may_write_live}
use Rattle.clear_laws.specs.declared.slots.Condition.{Condition}
use Rattle.clear_laws.specs.declared.place.FlaggedPlace.{FlaggedPlace}
use Rattle.clear_laws.specs.Places.{word_of, IsPlaceOf}
use Rattle.clear_laws.specs.Verdict.{AreSites, AreAllClear}
use Rattle.store_clear.specs.Conditions.{condition_at, is_discharged, HasConditionsLeft}
use Rattle.local_rules.specs.Site.{Task}
use Rattle.clear_laws.specs.Clear.{Store, store_at, may_move, MayBeFlagged}
use Rattle.store_clear.specs.declared.causes.Other.{Other}
use Rattle.store_clear.specs.declared.causes.Other.TheVariants.{Live, Moves}

-- ---- addresses

-- a store may write this address, which is flagged as protected and below the limit
abbrev pub IsProtectedBelow : Task → Store → ℕ → ℕ → Type 0
IsProtectedBelow task store count a = (a < count) × (may_write_protected task store a ≡ true)

-- so it may an address that is protected, all of which are guarded ones
abbrev pub IsProtectedWrite : Task → Store → ℕ → Type 0
IsProtectedWrite task store a = IsProtectedBelow task store (guarded_end (device_of task.flash) + 1) a

-- at each of these words a step may be flagged
abbrev pub MayAllBeFlagged : Task → RankedFamily → List ℕ → Type 0
MayAllBeFlagged task f sites = (pc : ℕ) → Contains sites pc → MayBeFlagged task f pc

-- ---- nodes

-- the node with this key still has a condition, and is at this word
abbrev pub is_unclear_at : ℕ → NodeKey → Condition → Bool
is_unclear_at pc k conditions = not (is_discharged conditions) && (k.pc == pc)

-- one of the first nodes still has a condition, is at this word, and passes the test
pub record PassesBelow (nodes : List Node) (conditions : List Condition) (pc : ℕ) (test : Node → Bool) (count : ℕ) : Type 0 where
  pub at : ℕ
  pub node : Node
  pub below : at < count
  pub is : slice_get nodes at ≡ Some node
  pub unclear : is_unclear_at pc node.key (condition_at conditions at) ≡ true
  pub passes : test node ≡ true

abbrev pub IsProtectedAt : Task → List Node → List Condition → ℕ → Instr → ℕ → ℕ → Type 0
IsProtectedAt task nodes conditions pc instr count a = (a < guarded_end (device_of task.flash) + 1) × PassesBelow nodes conditions pc (λ (n : Node). may_write_protected task (store_at pc n.state instr) a) count

-- a store at the node may write a pushed byte, or a moving bit may be set there
abbrev pub may_happen : Task → ℕ → Other → ℕ → Instr → Node → Bool
may_happen task bound Live pc instr n = may_write_live task bound n.key (store_at pc n.state instr)
may_happen task bound Moves pc instr n = may_move task n.key n.state instr

abbrev pub HappensAt : Task → ℕ → Other → List Node → List Condition → ℕ → Instr → ℕ → Type 0
HappensAt task bound other nodes conditions pc instr count = PassesBelow nodes conditions pc (may_happen task bound other pc instr) count

-- ---- words

-- the list is right for each certificate of these nodes and conditions
abbrev pub AreSitesTold : List Node → List Condition → List ℕ → Type 0
AreSitesTold nodes conditions sites =
    (task : Task) (c : Claim) → HasConditionsLeft task c nodes conditions → AreSites task c sites × ((sites ≡ []) ↔ AreAllClear task c)

-- the first words with their causes
pub record ArePlacesOf (task : Task) (f : RankedFamily) (sites : List ℕ) (places : List FlaggedPlace) : Type 0 where
  pub are : map word_of places ≡ sites
  pub each : (place : FlaggedPlace) → Contains places place → IsPlaceOf task f place
