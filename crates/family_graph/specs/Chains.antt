-- The deepest chain of a family, with the least needs. Source: own.
use Rattle.std.specs.Prelude.{ℕ, ◌≡◌, List, Some, slice_get, slice_index}
use Rattle.avr_model.specs.Devices.{device_of, back_of}
use Rattle.node_keys.specs.Keys.{root_inst}
use Rattle.local_rules.specs.declared.local.Node.{Node}
use Rattle.instance_graph.specs.declared.graph.GraphInst.{GraphInst}
use Rattle.instance_graph.specs.declared.graph.Link.{Link}
use Rattle.instance_graph.specs.Chain.{IsChain}
use Rattle.instance_graph.specs.Least.{IsLeast}
use Rattle.family_graph.specs.Graphs.{insts_of, IsGraphOf}
use Rattle.local_rules.specs.Site.{Task}

-- The deepest chain of a family by the least needs, and the root's need.
pub record IsDeepest (task : Task) (nodes : List Node) (need : ℕ) (links : List Link) : Type 0 where
  pub graph : List GraphInst
  pub family : IsGraphOf task nodes graph
  pub ranks : List ℕ
  pub needs : List ℕ
  pub least : IsLeast (back_of (device_of task.flash)) graph ranks needs
  pub root : need ≡ slice_index needs 0
  pub chain : IsChain (back_of (device_of task.flash)) graph needs links

-- the root is the first instance in each graph of the family, and chains begin there
abbrev pub BeginsAtRoot : Task → List Node → Type 0
BeginsAtRoot task nodes = (graph : List GraphInst) → IsGraphOf task nodes graph → slice_get (insts_of graph) 0 ≡ Some root_inst
