-- Families: finite maps from keys to states. Source: own.
use Rattle.std.specs.Prelude.{ℕ, Bool, ◌≡◌, ◌≤◌, List, map, Some}
use Rattle.std.specs.FinMap.{FinMap, get, entries, keys, len}
use Rattle.avr_model.specs.declared.device.Device.{Device}
use Rattle.abs_state.specs.declared.state.AbsState.{AbsState}
use Rattle.abs_state.specs.Order.{IsStateWithin}
use Rattle.node_keys.specs.declared.keys.InstKey.{InstKey}
use Rattle.node_keys.specs.declared.keys.NodeKey.{NodeKey}
use Rattle.node_keys.specs.Order.{node_cmp}
use Rattle.local_rules.specs.declared.local.Node.{Node}
use Rattle.local_rules.specs.Cover.{IsNodeIn}
use Rattle.edge_rules.specs.declared.edge.Edge.{Edge}
use Rattle.edge_rules.specs.Edges.{IsFaultless, IsEdge, target}
use Rattle.certificate.specs.Claims.{cells_of, most_nodes, most_cells}
use Rattle.local_rules.specs.Site.{Task}

abbrev pub Family : Type 0
Family = FinMap node_cmp AbsState

abbrev pub node_of : NodeKey × AbsState → Node
node_of e = record { key = e.0; state = e.1 }

-- the nodes, ascending by key
abbrev pub nodes_of : Family → List Node
nodes_of f = map node_of (entries f)

abbrev pub FamilyHas : Family → Node → Type 0
FamilyHas f n = get f n.key ≡ Some n.state

-- the family has a node of the instance
abbrev pub FamilyHasInst : Family → InstKey → Type 0
FamilyHasInst f inst = (n : Node) × FamilyHas f n × (n.key.inst ≡ inst)

-- the family has a node of this key, with a state above this one
pub record Lands (f : Family) (n : Node) : Type 0 where
  pub at : AbsState
  pub is : get f n.key ≡ Some at
  pub above : IsStateWithin n.state at

abbrev pub Below : Family → Family → Type 0
Below f g = (n : Node) → FamilyHas f n → Lands g n

-- all nodes are nodes of the analysis of a device, which follow pairs as `followed` says
abbrev pub AreFormed : Device → Bool → Family → Type 0
AreFormed device followed f = (n : Node) → FamilyHas f n → IsNodeIn device followed n.key n.state

abbrev pub HasNoFault : Task → Family → Type 0
HasNoFault task f = (n : Node) → FamilyHas f n → IsFaultless task n

-- each edge of f leads to a node of h, with a state within that node's
abbrev pub LandIn : Task → Family → Family → Type 0
LandIn task f h = (n : Node) (e : Edge) → FamilyHas f n → IsEdge task (nodes_of f) n e → Lands h (target e)

abbrev pub IsClosed : Task → Family → Type 0
IsClosed task f = LandIn task f f

-- ---- limits

-- the cells: one for each node and one for each slot
abbrev pub cells : Family → ℕ
cells f = cells_of (keys f)

pub record FitsLimits (f : Family) : Type 0 where
  pub few_nodes : len f ≤ most_nodes
  pub few_cells : cells f ≤ most_cells
