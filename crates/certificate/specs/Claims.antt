-- The parts of a certificate, and the invariants of its type. Source: own.
use Rattle.std.specs.Prelude.{ℕ, Bool, ◌+◌, ◌≡◌, ◌≤◌, ◌<◌, ⊤, true, false, List, [], ◌∷◌, map, length, Option, Contains, IfSome}
use Rattle.std.specs.List.{All, AllByRecursion}
use Rattle.std.specs.List.Sorted.{IsStrictlySortedBy}
use Rattle.avr_model.specs.declared.assumption.Entry.{Entry}
use Rattle.avr_model.specs.declared.device.Device.{Device}
use Rattle.avr_model.specs.Assumptions.{has_pairs}
use Rattle.avr_model.specs.Devices.{depth_of}
use Rattle.vector_table.specs.Entries.{AreEntries, fits_device}
use Rattle.node_keys.specs.declared.keys.NodeKey.{NodeKey}
use Rattle.node_keys.specs.Keys.{offset_of}
use Rattle.node_keys.specs.Order.{inst_cmp, node_cmp}
use Rattle.local_rules.specs.Cover.{IsNodeIn, IsKey}
use Rattle.edge_rules.specs.declared.seeded.NodeForm.{NodeForm}
use Rattle.edge_rules.specs.declared.seeded.NodeForm.TheVariants.{State, From}
use Rattle.edge_rules.specs.Expansion.{most_seeds, Seeds}
use Rattle.witness_replay.specs.Spelling.{Plan, IsSchedule}
use Rattle.certificate.specs.declared.instance.Inst.{Inst}
use Rattle.certificate.specs.declared.version.Version.{Version}
use Rattle.certificate.specs.Insts.{IsInst, inst_keys}
use Rattle.certificate.specs.Versions.{AreOf, is_first, is_third, says_device}

-- The device, the version of its text, the bound, the assumptions, the instances and nodes that every run stays in, and the schedule. A
-- node has a state, or the number of an earlier node that determines it.
pub record Claim : Type 0 where
  pub device : Device
  pub version : Version
  pub bound : ℕ
  pub assumptions : List Entry
  pub instances : List Inst
  pub nodes : Seeds
  pub witness : Option Plan

-- ---- limits

abbrev pub most_instances : ℕ
most_instances = 65536

abbrev pub most_nodes : ℕ
most_nodes = most_seeds

abbrev pub most_cells : ℕ
most_cells = 8388608

abbrev pub seed_keys : Seeds → List NodeKey
seed_keys nodes = map (λ e. e.0) nodes

-- a node takes one cell, and one more for each byte of its offset
unfoldable pub cells_of : List NodeKey → ℕ
cells_of [] = 0
cells_of (k ∷ ks) = 1 + offset_of k.sp + cells_of ks

-- ---- what the type keeps

-- the node of this number: its state is formed, and follows pairs as `followed` says, or it comes from an earlier node
abbrev pub FitsAt : Device → Bool → ℕ → NodeKey → NodeForm → Type 0
FitsAt device followed at k (State s) = IsNodeIn device followed k s
FitsAt device followed at k (From m) = IsKey device k × (m < at)

-- these nodes, numbered from `at` on
abbrev pub AreFrom : Device → Bool → ℕ → Seeds → Type 0
AreFrom device followed at [] = ⊤
AreFrom device followed at (e ∷ es) = FitsAt device followed at e.0 e.1 × AreFrom device followed (at + 1) es

-- the node's instance is in the list
abbrev pub Belongs : List Inst → NodeKey → Type 0
Belongs insts k = Contains (inst_keys insts) k.inst

-- all numbers are in range for the device
pub record IsClaim (c : Claim) : Type 0 where
  pub bound_fits : c.bound ≤ depth_of c.device
  pub entries_fit : AreEntries c.assumptions
  pub entries_of_device : All (λ e. fits_device c.device e ≡ true) c.assumptions
  pub insts_fit : AllByRecursion (IsInst c.device) c.instances
  pub insts_ascend : IsStrictlySortedBy inst_cmp (inst_keys c.instances)
  pub few_insts : length c.instances ≤ most_instances
  pub nodes_fit : AreFrom c.device (has_pairs c.assumptions) 0 c.nodes
  pub nodes_belong : AllByRecursion (Belongs c.instances) (seed_keys c.nodes)
  pub nodes_ascend : IsStrictlySortedBy node_cmp (seed_keys c.nodes)
  pub few_nodes : length c.nodes ≤ most_nodes
  pub few_cells : cells_of (seed_keys c.nodes) ≤ most_cells
  pub of_version : AreOf c.version c.nodes
  pub of_list : is_third c.version ≡ has_pairs c.assumptions
  -- the first version's text says no device
  pub of_device : says_device c.device ≡ true → is_first c.version ≡ false

-- a claim with a schedule that is valid for the device, if it has one
pub record IsCertificate (c : Claim) : Type 0 where
  pub claim : IsClaim c
  pub schedule : IfSome c.witness (IsSchedule c.device)
