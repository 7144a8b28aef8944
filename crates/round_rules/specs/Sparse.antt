-- The nodes of a solved family that are written without states. Source: own.
use Rattle.std.specs.Prelude.{ℕ, ◌≡◌, ◌<◌, ◌↔◌, List, Some, Contains, slice_get}
use Rattle.node_keys.specs.declared.keys.NodeKey.{NodeKey}
use Rattle.node_keys.specs.declared.keys.EdgeKind.TheVariants as kind
use Rattle.local_rules.specs.declared.local.Node.{Node}
use Rattle.edge_rules.specs.declared.edge.Edge.{Edge}
use Rattle.edge_rules.specs.declared.seeded.NodeForm.{NodeForm}
use Rattle.edge_rules.specs.declared.seeded.NodeForm.TheVariants.{From}
use Rattle.edge_rules.specs.Edges.{IsEdge}
use Rattle.edge_rules.specs.Expansion.{Seeds}
use Rattle.local_rules.specs.Site.{Task}

-- Exactly one edge of the family leads to this key. It is local, and comes from the node of this number.
pub record IsOnlyFrom (task : Task) (nodes : List Node) (k : NodeKey) (m : ℕ) : Type 0 where
  pub node : Node
  pub at : slice_get nodes m ≡ Some node
  pub edge : Edge
  pub is : IsEdge task nodes node edge
  pub leads : edge.to ≡ k
  pub moves : edge.kind ≡ kind.Local
  pub only : (other : Node) (e : Edge) → Contains nodes other → IsEdge task nodes other e → e.to ≡ k → (other ≡ node) × (e ≡ edge)

-- A node is written with the number of an earlier one exactly if its only edge is local and comes from there. Other nodes have states:
-- the first, which is the root's after reset, and those with several edges, or with one from a later node.
abbrev pub AreSparse : Task → List Node → Seeds → Type 0
AreSparse task nodes seeds = (at m : ℕ) (k : NodeKey) (form : NodeForm) → slice_get seeds at ≡ Some (k, form)
    → (form ≡ From m) ↔ ((m < at) × IsOnlyFrom task nodes k m)
