-- The graph of a family of nodes: its instances and their entries. Source: own.
use Rattle.std.specs.Prelude.{ℕ, ◌≡◌, ◌<◌, ◌↔◌, ◌⊎◌, None, List, [], length, map, Contains, Some, slice_get, slice_index_or}
use Rattle.std.specs.List.Sorted.{IsStrictlySortedBy}
use Rattle.node_keys.specs.declared.keys.EdgeKind.{EdgeKind}
use Rattle.node_keys.specs.declared.keys.InstKey.{InstKey}
use Rattle.node_keys.specs.declared.keys.SpForm.TheVariants.{Closed}
use Rattle.node_keys.specs.Keys.{root_inst, entry_key, cut_at}
use Rattle.node_keys.specs.Order.{inst_cmp}
use Rattle.local_rules.specs.declared.local.Node.{Node}
use Rattle.local_laws.specs.Laws.{HasKey}
use Rattle.edge_rules.specs.Edges.{Enters}
use Rattle.instance_graph.specs.declared.graph.GraphWay.TheVariants.{Enters as Entry, Recur}
use Rattle.family_graph.specs.declared.entering.Entering.{Entering}
use Rattle.instance_graph.specs.declared.graph.Entered.{Entered}
use Rattle.instance_graph.specs.declared.graph.GraphInst.{GraphInst}
use Rattle.instance_graph.specs.declared.graph.ClosedNode.{ClosedNode}
use Rattle.instance_graph.specs.Graph as graph
use Rattle.local_rules.specs.Site.{Task}

-- the instances of a graph, by their numbers
abbrev pub insts_of : List GraphInst → List InstKey
insts_of gs = map (λ g. g.key) gs

-- the family has a node of this instance
abbrev pub HasInst : List Node → InstKey → Type 0
HasInst nodes inst = (n : Node) × Contains nodes n × (n.key.inst ≡ inst)

-- each instance that a node of the family enters has its first node
abbrev pub IsPeopled : Task → List Node → Type 0
IsPeopled task nodes = (n : Node) (way : EdgeKind) (into : InstKey) (back : ℕ) → Contains nodes n → Enters task n way into back → HasKey nodes (entry_key into)

-- each cut instance with a node has its first node
abbrev pub AreRooted : Task → List Node → Type 0
AreRooted task nodes = (n : Node) (depth : ℕ) → Contains nodes n → cut_at task.assumptions n.key.inst ≡ Some depth → HasKey nodes (entry_key n.key.inst)

-- the entries of other instances by the node
abbrev pub AreWaysOf : Task → Node → List Entering → Type 0
AreWaysOf task n ways = (w : Entering) → Contains ways w ↔ ((back : ℕ) × Enters task n w.kind w.inst back)

-- the entries of the first nodes, by number
pub record AreWaysTo (task : Task) (nodes : List Node) (count : ℕ) (all : List (List Entering)) : Type 0 where
  pub count_is : length all ≡ count
  pub each : (at : ℕ) (n : Node) → at < count → slice_get nodes at ≡ Some n → AreWaysOf task n (slice_index_or all at [])

-- the entries of all nodes
abbrev pub AreWays : Task → List Node → List (List Entering) → Type 0
AreWays task nodes all = AreWaysTo task nodes (length nodes) all

-- the closed node belongs to this instance
pub record IsGraphNode (nodes : List Node) (inst : InstKey) (p : ClosedNode) : Type 0 where
  pub node : Node
  pub at : slice_get nodes p.node ≡ Some node
  pub same : node.key.inst ≡ inst
  pub closed : node.key.sp ≡ Closed p.offset

-- the edge's node belongs to the first instance, and enters the second, which isn't cut, in this way
pub record IsEntryOf (task : Task) (nodes : List Node) (inst into : InstKey) (e : Entered) : Type 0 where
  pub node : Node
  pub at : slice_get nodes e.node ≡ Some node
  pub same : node.key.inst ≡ inst
  pub closed : node.key.sp ≡ Closed e.offset
  pub kind : EdgeKind
  pub way : e.way ≡ Entry kind
  pub back : ℕ
  pub enters : Enters task node kind into back
  pub whole : cut_at task.assumptions into ≡ None

-- the edge is the recur edge of the root to the second instance, which is cut at this depth
pub record IsRecurOf (task : Task) (nodes : List Node) (inst into : InstKey) (e : Entered) : Type 0 where
  pub root : inst ≡ root_inst
  pub way : e.way ≡ Recur
  pub behind : e.node ≡ length nodes
  pub cut : cut_at task.assumptions into ≡ Some e.offset

-- the closed node belongs to the instance of this number
pub record HasClosedNodeOf (nodes : List Node) (insts : List InstKey) (i : ℕ) (p : ClosedNode) : Type 0 where
  pub inst : InstKey
  pub is : slice_get insts i ≡ Some inst
  pub of : IsGraphNode nodes inst p

-- the edge leads from the instance of this number to the edge's target
pub record HasEntryOf (task : Task) (nodes : List Node) (insts : List InstKey) (i : ℕ) (e : Entered) : Type 0 where
  pub inst : InstKey
  pub is : slice_get insts i ≡ Some inst
  pub into : InstKey
  pub leads : slice_get insts e.into ≡ Some into
  pub edge : IsEntryOf task nodes inst into e ⊎ IsRecurOf task nodes inst into e

-- The graph's instances are those with nodes, numbered in the order of keys. An instance has its closed nodes, and an edge for each entry
-- by one of its nodes into an instance that isn't cut; the root has an edge to each cut one besides. Nodes are named by their numbers in the
-- family.
pub record IsGraphOf (task : Task) (nodes : List Node) (gs : List GraphInst) : Type 0 where
  pub ascending : IsStrictlySortedBy inst_cmp (insts_of gs)
  pub insts : (inst : InstKey) → Contains (insts_of gs) inst ↔ HasInst nodes inst
  pub closed : (i : ℕ) (p : ClosedNode) → graph.HasClosedNode gs i p ↔ HasClosedNodeOf nodes (insts_of gs) i p
  pub entered : (i : ℕ) (e : Entered) → graph.EntersAlong gs i e ↔ HasEntryOf task nodes (insts_of gs) i e
