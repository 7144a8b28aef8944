-- Laws of the certificates of solved families.
use Rattle.std.specs.Prelude.{ℕ, ◌≡◌, ◌≢◌, ◌<◌, ◌≤◌, true, List, length, Some, Contains, slice_index}
use Rattle.std.specs.List.{All}
use Rattle.std.specs.FinMap.{get}
use Rattle.avr_model.specs.Devices.{device_of, size_of}
use Rattle.abs_state.specs.declared.state.AbsState.{AbsState}
use Rattle.vector_table.specs.Entries.{AreEntries, fits_device}
use Rattle.node_keys.specs.declared.keys.EdgeKind.TheVariants.{Local}
use Rattle.node_keys.specs.declared.keys.NodeKey.{NodeKey}
use Rattle.node_keys.specs.Keys.{root_inst, entry_key}
use Rattle.local_rules.specs.declared.local.Node.{Node}
use Rattle.edge_rules.specs.declared.edge.Edge.{Edge}
use Rattle.edge_rules.specs.Edges.{IsFaultless, IsEdge}
use Rattle.edge_rules.specs.Expansion.{Seeds, IsFilled}
use Rattle.edge_rules.specs.Views.{AreShown}
use Rattle.instance_graph.specs.declared.graph.GraphInst.{GraphInst}
use Rattle.instance_graph.specs.Graph.{IsGraph}
use Rattle.instance_graph.specs.Cycle.{IsNamed}
use Rattle.family_graph.specs.Graphs.{IsPeopled, IsGraphOf}
use Rattle.certificate.specs.declared.instance.Inst.{Inst}
use Rattle.certificate.specs.Claims.{IsClaim}
use Rattle.round_rules.specs.Families.{Family, nodes_of}
use Rattle.round_rules.specs.Refusals.{IsSolved}
use Rattle.round_rules.specs.Solutions.{IsSolution}
use Rattle.round_rules.specs.Sparse.{IsOnlyFrom, AreSparse}
use Rattle.round_solutions.specs.Parts.{AreForms, AreCertificateParts, claim_of}
use Rattle.local_rules.specs.Site.{Task}

-- A solved family has 1 to 65,536 nodes, ascending by key, none with a fault, and each entered instance has its first node.
pub record SolvedFamiliesAreShown : Type 0 where
  pub shown : (task : Task) (n : ℕ) (f : Family) → IsSolved task n f → AreShown (device_of task.flash) (nodes_of f)
  pub some : (task : Task) (n : ℕ) (f : Family) → IsSolved task n f → 0 < length (nodes_of f)
  pub few : (task : Task) (n : ℕ) (f : Family) → IsSolved task n f → length (nodes_of f) ≤ 65536
  pub faultless : (task : Task) (n : ℕ) (f : Family) → IsSolved task n f → (m : Node) → Contains (nodes_of f) m → IsFaultless task m
  pub peopled : (task : Task) (n : ℕ) (f : Family) → IsSolved task n f → IsPeopled task (nodes_of f)

-- A node has at most one local edge to a key. In a solved family, the only edge to a node determines its state if it is local, unless the
-- node is the root's after reset. So nodes with their forms determine the family.
pub record LoneEdgesTell : Type 0 where
  pub one : (task : Task) (nodes : List Node) (n : Node) (d e : Edge) → IsEdge task nodes n d → IsEdge task nodes n e
      → d.kind ≡ Local → e.kind ≡ Local → d.to ≡ e.to → d ≡ e
  pub state : (task : Task) (n : ℕ) (f : Family) (k : NodeKey) (m : ℕ) (s : AbsState) → IsSolved task n f
      → (only : IsOnlyFrom task (nodes_of f) k m) → k ≢ entry_key root_inst → get f k ≡ Some s → only.edge.state ≡ s
  pub filled : (task : Task) (n : ℕ) (f : Family) (seeds : Seeds) → IsSolved task n f → AreForms task (nodes_of f) seeds
      → IsFilled task seeds (nodes_of f)
  pub sparse : (task : Task) (f : Family) (seeds : Seeds) → AreForms task (nodes_of f) seeds → AreSparse task (nodes_of f) seeds

-- No cycle is found in the graph of a solved family.
abbrev pub GraphsAreAcyclic : Type 0
GraphsAreAcyclic = (task : Task) (n : ℕ) (f : Family) (gs : List GraphInst) (at : ℕ) → IsSolved task n f → IsGraph gs
    → IsGraphOf task (nodes_of f) gs → IsNamed gs at → ⊥

-- The root's least need is at most the size of SRAM, and with it as bound the parts form the certificate of the family.
pub record SolutionsAreMade : Type 0 where
  pub bound : (task : Task) (n : ℕ) (f : Family) (insts : List Inst) (seeds : Seeds) → IsSolved task n f
      → (parts : AreCertificateParts task f insts seeds) → slice_index parts.needs 0 ≤ size_of (device_of task.flash)
  pub claim : (task : Task) (n : ℕ) (f : Family) (insts : List Inst) (seeds : Seeds) → AreEntries task.assumptions → All (λ e. fits_device (device_of task.flash) e ≡ true) task.assumptions → IsSolved task n f
      → (parts : AreCertificateParts task f insts seeds) → IsClaim (claim_of (device_of task.flash) (slice_index parts.needs 0) task.assumptions insts seeds)
  pub solution : (task : Task) (n : ℕ) (f : Family) (insts : List Inst) (seeds : Seeds) → IsSolved task n f
      → (parts : AreCertificateParts task f insts seeds) → IsSolution task f (claim_of (device_of task.flash) (slice_index parts.needs 0) task.assumptions insts seeds)
