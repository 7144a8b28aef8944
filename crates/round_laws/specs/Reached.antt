-- Edges lead to all nodes of the rounds.
use Rattle.std.specs.Prelude.{ℕ, ◌≡◌, Bool, true}
use Rattle.node_keys.specs.declared.keys.NodeKey.{NodeKey}
use Rattle.node_keys.specs.Keys.{root_inst, entry_key}
use Rattle.local_rules.specs.declared.local.Node.{Node}
use Rattle.edge_rules.specs.declared.edge.Edge.{Edge}
use Rattle.edge_rules.specs.Edges.{IsEdge}
use Rattle.round_rules.specs.Families.{Family, nodes_of, FamilyHas, HasNoFault}
use Rattle.round_rules.specs.Rounds.{Comes}
use Rattle.local_rules.specs.Site.{Task}

-- a property of keys is preserved by each edge of the family
abbrev pub IsKept : Task → Family → (NodeKey → Bool) → Type 0
IsKept task f holds = (n : Node) (e : Edge) → FamilyHas f n → holds n.key ≡ true → IsEdge task (nodes_of f) n e → holds e.to ≡ true

-- A property of keys that the node at reset has, and that the edges of all families of the rounds without faults preserve, holds of all
-- their nodes.
abbrev pub RoundsAreReached : Type 0
RoundsAreReached = (task : Task) (n : ℕ) (f : Family) (holds : NodeKey → Bool) → Comes task n f → HasNoFault task f
    → holds (entry_key root_inst) ≡ true → IsKept task f holds → (m : Node) → FamilyHas f m → holds m.key ≡ true
