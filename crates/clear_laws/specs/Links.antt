-- The edges of a family within frames, by the numbers of its nodes.
use Rattle.std.specs.Prelude.{ℕ, ◌≡◌, ◌↔◌, true, List, length, map, Contains, Some}
use Rattle.std.specs.List.{slice_get}
use Rattle.node_keys.specs.declared.keys.EdgeKind.TheVariants as kind
use Rattle.node_keys.specs.declared.keys.NodeKey.{NodeKey}
use Rattle.node_keys.specs.Keys.{offset_of}
use Rattle.local_rules.specs.declared.local.Node.{Node}
use Rattle.edge_rules.specs.declared.edge.Edge.{Edge}
use Rattle.edge_rules.specs.Edges.{IsEdge}
use Rattle.edge_rules.specs.Views.{index_of}
use Rattle.clear_laws.specs.Held.{StaysInFrame, is_guarded_push}
use Rattle.clear_laws.specs.declared.slots.SlotSeed.{SlotSeed}
use Rattle.clear_laws.specs.Reach.{links_of}
use Rattle.local_rules.specs.Site.{Task}

-- the target of the edge, if it stays in its frame
abbrev pub IsTarget : List Node → Edge → ℕ → Type 0
IsTarget nodes e t = StaysInFrame e.kind × (index_of e.to nodes ≡ Some t)

-- the target of the edge with this slot, if the edge is local
abbrev pub IsLandingSeed : List Node → ℕ → Edge → SlotSeed → Type 0
IsLandingSeed nodes slot e s = (e.kind ≡ kind.Local) × (index_of e.to nodes ≡ Some s.node) × (s.slot ≡ slot)

-- the number of slots of each node
abbrev pub offsets_of : List Node → List ℕ
offsets_of nodes = map (λ (n : Node). offset_of n.key.sp) nodes

-- the target with the pushed slot, if the edge is of a guarded push
abbrev pub IsPushed : Task → List Node → NodeKey → Edge → SlotSeed → Type 0
IsPushed task nodes k e s = (is_guarded_push task k.pc ≡ true) × IsLandingSeed nodes (offset_of k.sp) e s

-- a node adds a slot by a guarded push
pub record SeedComes (task : Task) (nodes : List Node) (s : SlotSeed) : Type 0 where
  pub at : ℕ
  pub node : Node
  pub edge : Edge
  pub is : slice_get nodes at ≡ Some node
  pub from : IsEdge task nodes node edge
  pub lands : IsPushed task nodes node.key edge s

-- For each node, links are the targets of its edges within frames. The seeds are the slots of guarded pushes, and each node has its
-- number of slots.
pub record AreLinks (task : Task) (nodes : List Node) (links : List (List ℕ)) (offsets : List ℕ) (seeds : List SlotSeed) : Type 0 where
  pub count : length links ≡ length nodes
  pub link : (at : ℕ) (n : Node) (t : ℕ) → slice_get nodes at ≡ Some n
      → Contains (links_of links at) t ↔ ((e : Edge) × (IsEdge task nodes n e × IsTarget nodes e t))
  pub seed : (s : SlotSeed) → Contains seeds s ↔ SeedComes task nodes s
  pub offsets_are : offsets ≡ offsets_of nodes
