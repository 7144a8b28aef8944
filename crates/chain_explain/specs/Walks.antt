-- The path to a node within its instance. Source: own.
use Rattle.std.specs.Prelude.{ℕ, ◌≡◌, ◌↔◌, Bool, true, false, List, map, Option, Some, None, Contains, slice_get}
use Rattle.node_keys.specs.declared.keys.EdgeKind.{EdgeKind}
use Rattle.node_keys.specs.declared.keys.EdgeKind.TheVariants.{Local, Call, Interrupt, Return}
use Rattle.node_keys.specs.declared.keys.InstKey.{InstKey}
use Rattle.node_keys.specs.declared.keys.NodeKey.{NodeKey}
use Rattle.node_keys.specs.Keys.{root_inst, entry_key}
use Rattle.local_rules.specs.declared.local.Node.{Node}
use Rattle.edge_rules.specs.declared.edge.Edge.{Edge}
use Rattle.edge_rules.specs.Edges.{Enters, IsEdge}
use Rattle.shortest_walk.specs.Graph.{PointsTo}
use Rattle.shortest_walk.specs.Walk.{IsFirstOfShortest}
use Rattle.local_rules.specs.Site.{Task}

-- an edge of this kind enters no instance: it is local, or a return
abbrev pub is_move : EdgeKind → Bool
is_move Local = true
is_move Call = false
is_move (Interrupt v clears) = false
is_move Return = true

-- a local or return edge of the family leads from the node of the first number to that of the second, in the same instance
pub record MovesTo (task : Task) (nodes : List Node) (i j : ℕ) : Type 0 where
  pub from : Node
  pub at : slice_get nodes i ≡ Some from
  pub edge : Edge
  pub is_edge : IsEdge task nodes from edge
  pub moves : is_move edge.kind ≡ true
  pub to : Node
  pub lands : slice_get nodes j ≡ Some to
  pub key : to.key ≡ edge.to
  pub stays : to.key.inst ≡ from.key.inst

-- A walk of an instance begins at a node that a call or interrupt edge of the family enters; in the root, at the node at reset.
pub data Begins (task : Task) (nodes : List Node) : InstKey → NodeKey → Type 0 where
  at_reset : Begins task nodes root_inst (entry_key root_inst)
  by_entry : (n : Node) (way : EdgeKind) (inst : InstKey) (back : ℕ) → Contains nodes n → Enters task n way inst back → Begins task nodes inst (entry_key inst)

-- a walk of the instance begins at the node of this number
pub record IsStart (task : Task) (nodes : List Node) (inst : InstKey) (i : ℕ) : Type 0 where
  pub node : Node
  pub at : slice_get nodes i ≡ Some node
  pub begins : Begins task nodes inst node.key

-- the program counter of a node, 0 if there is none
abbrev pub pc_of : Option Node → ℕ
pc_of None = 0
pc_of (Some n) = n.key.pc

abbrev pub pc_at : List Node → ℕ → ℕ
pc_at nodes i = pc_of (slice_get nodes i)

-- The words of the first shortest walk to the node of this number in its instance, both ends included. Of walks with the same length, the
-- least list of node numbers is the first.
pub record IsWay (task : Task) (nodes : List Node) (inst : InstKey) (target : ℕ) (walk : List ℕ) : Type 0 where
  pub graph : List (List ℕ)
  pub moves : (i j : ℕ) → PointsTo graph i j ↔ MovesTo task nodes i j
  pub starts : List ℕ
  pub begin : (i : ℕ) → Contains starts i ↔ IsStart task nodes inst i
  pub numbers : List ℕ
  pub first : IsFirstOfShortest graph starts target numbers
  pub along : walk ≡ map (pc_at nodes) numbers
