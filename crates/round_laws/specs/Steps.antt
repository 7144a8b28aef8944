-- One round as a list of nodes that are joined one after the other.
use Rattle.std.specs.Prelude.{ℕ, Bool, ◌+◌, ◌≡◌, ◌⊎◌, ⊤, List, [], ◌∷◌, Option, Some, None, Contains}
use Rattle.std.specs.FinMap.{get, insert, entries}
use Rattle.avr_model.specs.declared.device.Device.{Device}
use Rattle.avr_model.specs.Assumptions.{has_pairs}
use Rattle.avr_model.specs.Devices.{device_of}
use Rattle.abs_state.specs.declared.state.AbsState.{AbsState}
use Rattle.abs_state.specs.Order.{state_join}
use Rattle.node_keys.specs.declared.keys.NodeKey.{NodeKey}
use Rattle.local_rules.specs.declared.local.Node.{Node}
use Rattle.local_rules.specs.Cover.{IsNodeIn}
use Rattle.edge_rules.specs.declared.edge.Edge.{Edge}
use Rattle.edge_rules.specs.Edges.{IsEdge, target}
use Rattle.edge_rules.specs.Families.{IsCovered}
use Rattle.abs_state.specs.Rank.{state_rank}
use Rattle.round_rules.specs.Families.{Family, nodes_of, FamilyHas, Lands, Below, AreFormed, LandIn}
use Rattle.local_rules.specs.Site.{Task}

-- a state joined with the present one, if any
abbrev pub joined_with : Option AbsState → AbsState → AbsState
joined_with None s = s
joined_with (Some t) s = state_join t s

-- the family with this node joined, and with these nodes joined
abbrev pub raised : Family → Node → Family
raised f n = insert f n.key (joined_with (get f n.key) n.state)

abbrev pub raised_all : Family → List Node → Family
raised_all f [] = f
raised_all f (n ∷ ns) = raised_all (raised f n) ns

-- Nodes whose join makes all edges of f land: each edge lands already or is below one of them; and wherever all edges land, so do they.
pub record IsRoundOf (task : Task) (f : Family) (ns : List Node) : Type 0 where
  pub formed : (to : Node) → Contains ns to → IsNodeIn (device_of task.flash) (has_pairs task.assumptions) to.key to.state
  pub all : (n : Node) (e : Edge) → FamilyHas f n → IsEdge task (nodes_of f) n e → Lands f (target e) ⊎ IsCovered ns (target e)
  pub least : (h : Family) → Below f h → LandIn task f h → (to : Node) → Contains ns to → Lands h to

-- g is f with all these nodes joined: the least family above f that has them; all are nodes of the analysis of a device
pub record AreJoined (device : Device) (followed : Bool) (f : Family) (ns : List Node) (g : Family) : Type 0 where
  pub formed : AreFormed device followed g
  pub above : Below f g
  pub lands : (to : Node) → Contains ns to → Lands g to
  pub least : (h : Family) → Below f h → ((to : Node) → Contains ns to → Lands h to) → Below g h

-- no two of the nodes have the same key
abbrev pub HaveOwnKeys : List Node → Type 0
HaveOwnKeys [] = ⊤
HaveOwnKeys (n ∷ ns) = ((m : Node) → Contains ns m → m.key ≡ n.key → ⊥) × HaveOwnKeys ns

-- the weight of a family: one for each node, and the rank of its state
abbrev pub weight_of : List (NodeKey × AbsState) → ℕ
weight_of [] = 0
weight_of (e ∷ es) = state_rank e.1 + 1 + weight_of es

abbrev pub weight : Family → ℕ
weight f = weight_of (entries f)
