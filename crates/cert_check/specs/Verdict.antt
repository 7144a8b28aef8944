-- The verdict on a certificate but for its schedule: acceptance, or the first reason against it with its least numbers. Source: own.
use Rattle.std.specs.Prelude.{ℕ, Bool, ◌≡◌, ◌≢◌, ◌<◌, ◌≤◌, List, Contains, Some, Err, ◌↔◌}
use Rattle.std.specs.List.{slice_get}
use Rattle.std.specs.declared.cmp.Ordering.TheVariants.{Greater}
use Rattle.avr_model.specs.declared.assumption.Entry.{Entry}
use Rattle.avr_model.specs.Assumptions.{has_pairs}
use Rattle.avr_model.specs.Devices.{device_of}
use Rattle.node_keys.specs.declared.keys.NodeKey.{NodeKey}
use Rattle.node_keys.specs.Keys.{root_inst}
use Rattle.node_keys.specs.Order.{node_cmp}
use Rattle.local_rules.specs.declared.local.Node.{Node}
use Rattle.local_rules.specs.declared.local.NodeFault.{NodeFault}
use Rattle.local_rules.specs.Faults.{cause_of}
use Rattle.local_rules.specs.Local.{local}
use Rattle.edge_rules.specs.declared.edge.Edge.{Edge}
use Rattle.edge_rules.specs.Edges.{IsFaultless, IsEdge, target}
use Rattle.edge_rules.specs.Nest.{NestEdge}
use Rattle.edge_rules.specs.Expansion.{Seeds, IsFilled, IsMissing}
use Rattle.edge_rules.specs.Families.{AreFaultless}
use Rattle.family_edges.specs.declared.worked.WorkedOut.{WorkedOut}
use Rattle.family_edges.specs.Landings.{AreLandings}
use Rattle.certificate.specs.declared.instance.Inst.{Inst}
use Rattle.certificate.specs.Insts.{need_in}
use Rattle.certificate.specs.Claims.{Claim}
use Rattle.certificate.specs.Valid.{reset_node, AreRanked, Suffices, NeedsSuffice, IsBounded, MeetsConditions, IsSound}
use Rattle.cert_check.specs.declared.verdict.Reason.{Reason}
use Rattle.cert_check.specs.declared.verdict.Reason.TheVariants as reason
use Rattle.cert_check.specs.declared.verdict.Judgement.{Judgement}
use Rattle.cert_check.specs.declared.verdict.Judgement.TheVariants.{Accepted, Rejected}
use Rattle.cert_check.specs.Reading.{read_seeds, LandsOpen}
use Rattle.local_rules.specs.Site.{Task}

-- node j has a fault of this cause, and no earlier node has one
pub record IsFirstFaultOfCause (task : Task) (nodes : List Node) (j cause : ℕ) : Type 0 where
  pub node : Node
  pub is : slice_get nodes j ≡ Some node
  pub fault : NodeFault
  pub has : local task node.key node.state ≡ Err fault
  pub which : cause_of fault ≡ cause
  pub earlier : (i : ℕ) (n : Node) → slice_get nodes i ≡ Some n → i < j → IsFaultless task n

-- the edge does not land
abbrev pub IsGap : Bool → Seeds → List Node → Edge → Type 0
IsGap followed own nodes e = LandsOpen followed own nodes (target e) → ⊥

-- each edge lands
abbrev pub AllLanded : Task → Seeds → List Node → Type 0
AllLanded task own nodes = (n : Node) (e : Edge) → Contains nodes n → IsEdge task nodes n e → LandsOpen (has_pairs task.assumptions) own nodes (target e)

-- Node j has an edge to this key that does not land, and none to a smaller key; all edges of earlier nodes land.
pub record IsFirstGap (task : Task) (own : Seeds) (nodes : List Node) (j : ℕ) (to : NodeKey) : Type 0 where
  pub node : Node
  pub is : slice_get nodes j ≡ Some node
  pub edge : Edge
  pub from : IsEdge task nodes node edge
  pub leads : edge.to ≡ to
  pub gap : IsGap (has_pairs task.assumptions) own nodes edge
  pub least : (e : Edge) → IsEdge task nodes node e → IsGap (has_pairs task.assumptions) own nodes e → node_cmp to e.to ≢ Greater
  pub earlier : (i : ℕ) (n : Node) (e : Edge) → slice_get nodes i ≡ Some n → i < j → IsEdge task nodes n e → LandsOpen (has_pairs task.assumptions) own nodes (target e)

-- instance y lies below instance x in the nest
pub record InstEnters (task : Task) (nodes : List Node) (x y : Inst) : Type 0 where
  pub depth : ℕ
  pub edge : NestEdge task (Contains nodes) x.key y.key depth

-- Instance j enters instance l, whose rank is not below its own. Of all such instances l is the least, and the ranks of all earlier
-- instances are in order.
pub record IsFirstRank (task : Task) (c : Claim) (nodes : List Node) (j l : ℕ) : Type 0 where
  pub from : Inst
  pub into : Inst
  pub is : slice_get c.instances j ≡ Some from
  pub there : slice_get c.instances l ≡ Some into
  pub enters : InstEnters task nodes from into
  pub low : from.rank ≤ into.rank
  pub least : (m : ℕ) (y : Inst) → slice_get c.instances m ≡ Some y → InstEnters task nodes from y → from.rank ≤ y.rank → l ≤ m
  pub earlier : (i m : ℕ) (x y : Inst) → slice_get c.instances i ≡ Some x → slice_get c.instances m ≡ Some y → i < j → InstEnters task nodes x y
      → y.rank < x.rank

-- The need of instance j is below this number, the least that suffices for it. The needs of all earlier instances suffice.
pub record IsFirstNeed (task : Task) (c : Claim) (nodes : List Node) (j need : ℕ) : Type 0 where
  pub inst : Inst
  pub is : slice_get c.instances j ≡ Some inst
  pub enough : Suffices task c nodes inst.key need
  pub least : (n : ℕ) → Suffices task c nodes inst.key n → need ≤ n
  pub low : inst.need < need
  pub earlier : (i : ℕ) (x : Inst) → slice_get c.instances i ≡ Some x → i < j → Suffices task c nodes x.key x.need

-- the node at reset exists, is open, and has a state above the reset state
abbrev pub HasReset : List Entry → Claim → List Node → Type 0
HasReset A c nodes = LandsOpen (has_pairs A) c.nodes nodes (reset_node A)

-- The reason holds of the expanded nodes, no reason before it does, and its numbers are the least.
abbrev pub IsLeastReason : Task → Claim → List Node → Reason → Type 0
IsLeastReason task c nodes reason.Device = ⊥
IsLeastReason task c nodes (reason.Expansion at) = ⊥
IsLeastReason task c nodes reason.Root = HasReset task.assumptions c nodes → ⊥
IsLeastReason task c nodes (reason.Node j cause) = HasReset task.assumptions c nodes × IsFirstFaultOfCause task nodes j cause
IsLeastReason task c nodes (reason.Edge j to) = HasReset task.assumptions c nodes × AreFaultless task nodes × IsFirstGap task c.nodes nodes j to
IsLeastReason task c nodes (reason.Rank j l) =
    HasReset task.assumptions c nodes × AreFaultless task nodes × AllLanded task c.nodes nodes × IsFirstRank task c nodes j l
IsLeastReason task c nodes (reason.Need j need) =
    HasReset task.assumptions c nodes × AreFaultless task nodes × AllLanded task c.nodes nodes × AreRanked task c nodes × IsFirstNeed task c nodes j need
IsLeastReason task c nodes (reason.Bound need) =
    HasReset task.assumptions c nodes × AreFaultless task nodes × AllLanded task c.nodes nodes × AreRanked task c nodes × NeedsSuffice task c nodes
    × (need ≡ need_in c.instances root_inst) × (IsBounded task.flash c → ⊥)
IsLeastReason task c nodes reason.Assumptions =
    HasReset task.assumptions c nodes × AreFaultless task nodes × AllLanded task c.nodes nodes × AreRanked task c nodes × NeedsSuffice task c nodes
    × IsBounded task.flash c × (c.assumptions ≢ task.assumptions)

-- the certificate is for the device, and the reason holds of the expanded nodes, which are read by the list of the call
pub record IsRejected (task : Task) (c : Claim) (r : Reason) : Type 0 where
  pub device : c.device ≡ device_of task.flash
  pub nodes : List Node
  pub expanded : IsFilled task (read_seeds (has_pairs task.assumptions) c.nodes) nodes
  pub why : IsLeastReason task c nodes r

-- the reason for a refusal: another device comes before all other reasons, and after it a node without expansion
abbrev pub IsReason : Task → Claim → Reason → Type 0
IsReason task c reason.Device = c.device ≢ device_of task.flash
IsReason task c (reason.Expansion at) = (c.device ≡ device_of task.flash) × IsMissing task (read_seeds (has_pairs task.assumptions) c.nodes) at
IsReason task c r = IsRejected task c r

-- The verdict: acceptance with the bound if all conditions but that on the schedule hold, else the reason.
abbrev pub IsVerdict : Task → Claim → Judgement ℕ → Type 0
IsVerdict task c (Accepted bound) = IsSound task c × (bound ≡ c.bound)
IsVerdict task c (Rejected r) = IsReason task c r

-- it accepts a bound exactly if the certificate is sound and has this bound
abbrev pub AcceptsTheSound : Task → Claim → Judgement ℕ → Type 0
AcceptsTheSound task c verdict = (b : ℕ) → (verdict ≡ Accepted b) ↔ (IsSound task c × (b ≡ c.bound))

-- it rejects for a reason exactly if this is the reason against the certificate
abbrev pub RejectsForReason : Task → Claim → Judgement ℕ → Type 0
RejectsForReason task c verdict = (r : Reason) → (verdict ≡ Rejected r) ↔ IsReason task c r

-- ---- with the family where all conditions hold

-- the expanded nodes of the certificate, which meet the conditions, and the landings of their edges
pub record IsFamilyOf (task : Task) (c : Claim) (family : WorkedOut) : Type 0 where
  pub filled : IsFilled task c.nodes family.nodes
  pub meets : MeetsConditions task c family.nodes
  pub landings : AreLandings task family.nodes family.landings

-- The judgement: the family if all conditions but that on the schedule hold, else the reason.
abbrev pub IsJudgement : Task → Claim → Judgement WorkedOut → Type 0
IsJudgement task c (Accepted family) = IsFamilyOf task c family
IsJudgement task c (Rejected r) = IsReason task c r
