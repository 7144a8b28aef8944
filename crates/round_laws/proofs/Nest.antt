-- Edges of the nest.
use Rattle.std.proofs.Common.{◌≡◌, ◌∙◌, sym, ℕ}
use Rattle.node_keys.specs.declared.keys.InstKey.{InstKey}
use Rattle.node_keys.specs.Keys.{root_inst}
use Rattle.local_rules.specs.declared.local.Node.{Node}
use Rattle.local_rules.specs.Site.{Task}
use Rattle.edge_rules.specs.Nest.{NestEdge, recurs, enters as by_node}

-- with more nodes there are more edges
pub nest_more : (task : Task) (Has More : Node → Type 0) → ((n : Node) → Has n → More n) → (i j : InstKey) (depth : ℕ) → NestEdge task Has i j depth → NestEdge task More i j depth
nest_more task Has More more i j depth (by_node n way back h same at e whole) = by_node n way back (more n h) same at e whole
nest_more task Has More more i j depth (recurs n h same cut top) = recurs n (more n h) same cut top

-- the upper instance has a node, if the root has one
pub upper_has : (task : Task) (Has : Node → Type 0) (i j : InstKey) (depth : ℕ) → ((n : Node) × Has n × (n.key.inst ≡ root_inst)) → NestEdge task Has i j depth
    → (n : Node) × Has n × (n.key.inst ≡ i)
upper_has task Has i j depth root (by_node n way back h same at e whole) = (n, h, same)
upper_has task Has i j depth root (recurs n h same cut top) = (root.0, root.1, root.2 ∙ sym top)
