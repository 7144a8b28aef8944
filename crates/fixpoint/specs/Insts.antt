-- Instances with their ranks and needs.
use Rattle.std.specs.Prelude.{ℕ, ◌≡◌, ◌<◌, List, length, Some, slice_get, slice_index}
use Rattle.avr_model.specs.Devices.{device_of, back_of}
use Rattle.local_rules.specs.declared.local.Node.{Node}
use Rattle.instance_graph.specs.declared.graph.GraphInst.{GraphInst}
use Rattle.instance_graph.specs.Graph.{IsGraph}
use Rattle.instance_graph.specs.Least.{IsLeast}
use Rattle.family_graph.specs.Graphs.{IsGraphOf}
use Rattle.certificate.specs.declared.instance.Inst.{Inst}
use Rattle.round_rules.specs.Families.{Family, nodes_of}
use Rattle.round_rules.specs.Refusals.{IsSolved}
use Rattle.round_solutions.specs.Parts.{AreInsts}
use Rattle.local_rules.specs.Site.{Task}

-- the first of a graph's instances, with ranks and needs
pub record AreInstsBelow (gs : List GraphInst) (ranks needs : List ℕ) (count : ℕ) (insts : List Inst) : Type 0 where
  pub all : length insts ≡ count
  pub each : (i : ℕ) (g : GraphInst) → i < count → slice_get gs i ≡ Some g
      → slice_get insts i ≡ Some (record { key = g.key; rank = slice_index ranks i; need = slice_index needs i })

-- these are the nodes of a family at which the rounds end
pub record AreSolvedNodes (task : Task) (nodes : List Node) : Type 0 where
  pub family : Family
  pub rounds : ℕ
  pub solved : IsSolved task rounds family
  pub are : nodes ≡ nodes_of family

-- the instances of a graph of these nodes, with least ranks and needs
pub record AreInstsOf (task : Task) (nodes : List Node) (insts : List Inst) : Type 0 where
  pub graph : List GraphInst
  pub ranks : List ℕ
  pub needs : List ℕ
  pub is_graph : IsGraph graph
  pub of : IsGraphOf task nodes graph
  pub least : IsLeast (back_of (device_of task.flash)) graph ranks needs
  pub insts_are : AreInsts graph ranks needs insts
