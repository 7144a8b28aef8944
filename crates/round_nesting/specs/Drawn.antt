-- The graph of a nesting.
use Rattle.std.specs.Prelude.{ℕ, ◌+◌, ◌≡◌, ◌↔◌, ◌⊎◌, Bool, if◌then◌else◌, List, ◌∷◌, Some, length, Contains, slice_get, [], Result, OnOk}
use Rattle.std.specs.List.{position_or_len}
use Rattle.avr_model.specs.declared.device.Device.{Device}
use Rattle.avr_model.specs.Devices.{device_of}
use Rattle.node_keys.specs.declared.keys.InstKey.{InstKey}
use Rattle.node_keys.specs.Keys.{root_inst}
use Rattle.node_keys.specs.Order.{same_inst}
use Rattle.instance_graph.specs.declared.graph.Entered.{Entered}
use Rattle.instance_graph.specs.declared.graph.GraphInst.{GraphInst}
use Rattle.instance_graph.specs.declared.graph.ClosedNode.{ClosedNode}
use Rattle.instance_graph.specs.Graph.{IsGraph, EntersAlong, HasClosedNode}
use Rattle.round_rules.specs.Families.{Family}
use Rattle.round_laws.specs.Graphs.{IsGraphOver}
use Rattle.round_nesting.specs.Nestings.{Spot, Entrance, AreOnce, VerdictTells, Noted}
use Rattle.round_nesting.specs.declared.verdict.NestingVerdict.{NestingVerdict}
use Rattle.local_rules.specs.Site.{Task}

-- the instances of a nesting, in which the root is kept apart
abbrev pub insts_of : Bool → List InstKey → List InstKey
insts_of has_root others = if has_root then root_inst ∷ others else others

-- the notes of these instances, spots and entrances
abbrev pub noted_of : Bool → List InstKey → List Spot → List Entrance → Noted
noted_of has_root others spots entrances = record { insts = insts_of has_root others; spots = spots; entrances = entrances }

-- the other instances occur once, and the root is not among them
pub record AreOthersApart (others : List InstKey) : Type 0 where
  pub once : AreOnce others
  pub rootless : Contains others root_inst → ⊥

-- one more item, if it is new
abbrev pub HasMore : {X : Type 0} → List X → X → List X → Type 0
HasMore {X} old y new = (x : X) → Contains new x ↔ (Contains old x ⊎ (x ≡ y))

-- the number of an instance, or the one behind all if it has none
abbrev pub number_of : List InstKey → InstKey → ℕ
number_of keys inst = position_or_len (same_inst inst) keys

-- the instances of both graphs are the same
pub record IsSame (old new : List GraphInst) : Type 0 where
  pub count : length new ≡ length old
  pub keys : (i : ℕ) (g : GraphInst) → slice_get new i ≡ Some g → (h : GraphInst) × (slice_get old i ≡ Some h) × (g.key ≡ h.key)

-- the instance of this number has one more closed node
pub record IsNodeDrawn (old : List GraphInst) (at : ℕ) (node : ClosedNode) (new : List GraphInst) : Type 0 where
  pub same : IsSame old new
  pub closed : (i : ℕ) (p : ClosedNode) → HasClosedNode new i p ↔ (HasClosedNode old i p ⊎ ((i ≡ at) × (p ≡ node)))
  pub entered : (i : ℕ) (e : Entered) → EntersAlong new i e ↔ EntersAlong old i e

-- the instance of this number has one more edge
pub record IsEntranceDrawn (old : List GraphInst) (at : ℕ) (edge : Entered) (new : List GraphInst) : Type 0 where
  pub same : IsSame old new
  pub closed : (i : ℕ) (p : ClosedNode) → HasClosedNode new i p ↔ HasClosedNode old i p
  pub entered : (i : ℕ) (e : Entered) → EntersAlong new i e ↔ (EntersAlong old i e ⊎ ((i ≡ at) × (e ≡ edge)))

-- a spot for this closed node of instance i
pub record IsClosedNodeOf (keys : List InstKey) (spots : List Spot) (i : ℕ) (p : ClosedNode) : Type 0 where
  pub spot : Spot
  pub has : Contains spots spot
  pub of : number_of keys spot.inst ≡ i
  pub at : spot.offset ≡ p.offset

-- an entrance for this edge of instance i
pub record IsEdgeOf (keys : List InstKey) (entrances : List Entrance) (i : ℕ) (e : Entered) : Type 0 where
  pub entrance : Entrance
  pub has : Contains entrances entrance
  pub from : number_of keys entrance.from ≡ i
  pub into : number_of keys entrance.into ≡ e.into
  pub at : entrance.offset ≡ e.offset

-- the graph has a closed node for the spot
pub record HasSpot (keys : List InstKey) (gs : List GraphInst) (s : Spot) : Type 0 where
  pub closed : ClosedNode
  pub has : HasClosedNode gs (number_of keys s.inst) closed
  pub at : s.offset ≡ closed.offset

-- the graph has an edge for the entrance
pub record HasEntranceEdge (keys : List InstKey) (gs : List GraphInst) (x : Entrance) : Type 0 where
  pub edge : Entered
  pub enters : EntersAlong gs (number_of keys x.from) edge
  pub into : number_of keys x.into ≡ edge.into
  pub at : x.offset ≡ edge.offset

-- the graph of these spots and entrances: an instance for each key, and one more for all others
pub record IsDrawn (keys : List InstKey) (spots : List Spot) (entrances : List Entrance) (gs : List GraphInst) : Type 0 where
  pub is_graph : IsGraph gs
  pub count : length gs ≡ length keys + 1
  pub keyed : (i : ℕ) (g : GraphInst) (inst : InstKey) → slice_get gs i ≡ Some g → slice_get keys i ≡ Some inst → g.key ≡ inst
  pub closed : (i : ℕ) (p : ClosedNode) → HasClosedNode gs i p → IsClosedNodeOf keys spots i p
  pub all_closed : (s : Spot) → Contains spots s → HasSpot keys gs s
  pub edges : (i : ℕ) (e : Entered) → EntersAlong gs i e → IsEdgeOf keys entrances i e
  pub all_edges : (x : Entrance) → Contains entrances x → HasEntranceEdge keys gs x

-- the graph justifies the verdict, for each family with this graph on this device
abbrev pub GraphTells : Device → List GraphInst → NestingVerdict → Type 0
GraphTells device gs w =
    (task : Task) (f : Family) (keys : List InstKey) → device_of task.flash ≡ device → IsGraphOver task f keys gs → VerdictTells task f w

-- a graph that has these spots drawn, and no entrance, has the entrances drawn too
abbrev pub DrawsEntrances : {A E : Type 0} → Result A E → List InstKey → List GraphInst → List Entrance → List GraphInst → Type 0
DrawsEntrances result others old entrances new =
    (spots : List Spot) → IsDrawn (root_inst ∷ others) spots [] old → OnOk result (IsDrawn (root_inst ∷ others) spots entrances new)
