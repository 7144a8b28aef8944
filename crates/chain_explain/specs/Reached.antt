-- The nodes of a family that edges reach from the node at reset. Source: own.
use Rattle.std.specs.Prelude.{◌↔◌, List, map, Contains}
use Rattle.std.specs.List.Sorted.{IsStrictlySortedBy}
use Rattle.node_keys.specs.declared.keys.NodeKey.{NodeKey}
use Rattle.node_keys.specs.Keys.{root_inst, entry_key}
use Rattle.node_keys.specs.Order.{node_cmp}
use Rattle.local_rules.specs.declared.local.Node.{Node}
use Rattle.edge_rules.specs.declared.edge.Edge.{Edge}
use Rattle.edge_rules.specs.Edges.{IsEdge}
use Rattle.edge_rules.specs.Views.{key_of}
use Rattle.local_rules.specs.Site.{Task}

-- the key of the node at reset is reached, and so are the targets of edges from reached nodes
pub data IsReached (task : Task) (nodes : List Node) : NodeKey → Type 0 where
  at_reset : IsReached task nodes (entry_key root_inst)
  by_edge : (n : Node) (e : Edge) → Contains nodes n → IsReached task nodes n.key → IsEdge task nodes n e → IsReached task nodes e.to

-- the reached nodes of a family, ascending by key
pub record AreReached (task : Task) (nodes reached : List Node) : Type 0 where
  pub ascending : IsStrictlySortedBy node_cmp (map key_of reached)
  pub exact : (n : Node) → Contains reached n ↔ (Contains nodes n × IsReached task nodes n.key)
