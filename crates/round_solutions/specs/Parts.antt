-- The parts of a family's certificate. Source: own.
use Rattle.std.specs.Prelude.{ℕ, ◌≡◌, ◌<◌, List, length, None, Some, slice_get, slice_index}
use Rattle.avr_model.specs.declared.device.Device.{Device}
use Rattle.avr_model.specs.Devices.{device_of, back_of}
use Rattle.avr_model.specs.declared.assumption.Entry.{Entry}
use Rattle.local_rules.specs.declared.local.Node.{Node}
use Rattle.edge_rules.specs.declared.seeded.NodeForm.{NodeForm}
use Rattle.edge_rules.specs.declared.seeded.NodeForm.TheVariants.{State, From}
use Rattle.edge_rules.specs.Expansion.{Seeds}
use Rattle.instance_graph.specs.declared.graph.GraphInst.{GraphInst}
use Rattle.instance_graph.specs.Graph.{IsGraph}
use Rattle.instance_graph.specs.Least.{IsLeast}
use Rattle.family_graph.specs.Graphs.{IsGraphOf}
use Rattle.certificate.specs.Versions.{written_version}
use Rattle.certificate.specs.declared.instance.Inst.{Inst}
use Rattle.certificate.specs.Claims.{Claim}
use Rattle.round_rules.specs.Families.{Family, nodes_of}
use Rattle.round_rules.specs.Sparse.{IsOnlyFrom}
use Rattle.local_rules.specs.Site.{Task}

-- ---- nodes

-- The form of the node of this number: the number of an earlier node if its only edge is local and comes from there, else its state.
abbrev pub IsForm : Task → List Node → ℕ → Node → NodeForm → Type 0
IsForm task nodes at n (State s) = (s ≡ n.state) × ((m : ℕ) → m < at → IsOnlyFrom task nodes n.key m → ⊥)
IsForm task nodes at n (From m) = (m < at) × IsOnlyFrom task nodes n.key m

-- the node of this number has its key and its form here
abbrev pub IsGivenAt : Task → List Node → Seeds → ℕ → Node → Type 0
IsGivenAt task nodes seeds at n = (form : NodeForm) × ((slice_get seeds at ≡ Some (n.key, form)) × IsForm task nodes at n form)

-- these are the nodes with their forms
pub record AreForms (task : Task) (nodes : List Node) (seeds : Seeds) : Type 0 where
  pub count : length seeds ≡ length nodes
  pub each : (at : ℕ) (n : Node) → slice_get nodes at ≡ Some n → IsGivenAt task nodes seeds at n

-- ---- instances

-- these are the graph's instances with ranks and needs
pub record AreInsts (gs : List GraphInst) (ranks needs : List ℕ) (insts : List Inst) : Type 0 where
  pub count : length insts ≡ length gs
  pub each : (i : ℕ) (g : GraphInst) → slice_get gs i ≡ Some g
      → slice_get insts i ≡ Some (record { key = g.key; rank = slice_index ranks i; need = slice_index needs i })

-- ---- all

-- the instances of a graph of the family, with least ranks and needs, and the family's nodes with their forms
pub record AreCertificateParts (task : Task) (f : Family) (insts : List Inst) (seeds : Seeds) : Type 0 where
  pub graph : List GraphInst
  pub ranks : List ℕ
  pub needs : List ℕ
  pub is_graph : IsGraph graph
  pub of : IsGraphOf task (nodes_of f) graph
  pub least : IsLeast (back_of (device_of task.flash)) graph ranks needs
  pub insts_are : AreInsts graph ranks needs insts
  pub forms : AreForms task (nodes_of f) seeds

-- the certificate of these parts for this device with this bound, without a schedule, in the version for the assumptions
abbrev pub claim_of : Device → ℕ → List Entry → List Inst → Seeds → Claim
claim_of device bound A insts seeds = record { device = device; version = written_version A; bound = bound; assumptions = A; instances = insts; nodes = seeds; witness = None }
