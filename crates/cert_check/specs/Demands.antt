-- Intermediate results of a verdict.
use Rattle.std.specs.Prelude.{ℕ, Bool, suc, ◌+◌, ◌≡◌, ◌≢◌, ◌<◌, ◌≤◌, ◌↔◌, ◌⊎◌, ◌==◌, ◌&&◌, ◌||◌, nat_lt, nat_le, if◌then◌else◌, List, [], ◌∷◌, ◌++◌, length, Option, Some, None, map, Contains}
use Rattle.std.specs.List.{slice_get, flat_map, AllByRecursion}
use Rattle.std.specs.List.Sorted.{IsStrictlySortedBy}
use Rattle.std.specs.Ordering.{is_le}
use Rattle.std.specs.declared.cmp.Ordering.TheVariants.{Greater}
use Rattle.avr_model.specs.declared.assumption.Entry.{Entry}
use Rattle.avr_model.specs.Assumptions.{has_pairs}
use Rattle.avr_model.specs.Devices.{Image, device_of, back_of}
use Rattle.avr_model.specs.State.{SIZE}
use Rattle.abs_state.specs.declared.state.AbsState.{AbsState}
use Rattle.node_keys.specs.declared.keys.EdgeKind.{EdgeKind}
use Rattle.node_keys.specs.declared.keys.InstKey.{InstKey}
use Rattle.node_keys.specs.declared.keys.NodeKey.{NodeKey}
use Rattle.node_keys.specs.declared.keys.SpForm.{SpForm}
use Rattle.node_keys.specs.declared.keys.SpForm.TheVariants.{Closed, Open}
use Rattle.node_keys.specs.Keys.{root_inst, offset_of, cut_at}
use Rattle.node_keys.specs.Order.{inst_cmp, node_cmp, same_inst}
use Rattle.local_rules.specs.declared.local.Node.{Node}
use Rattle.edge_rules.specs.declared.edge.Edge.{Edge}
use Rattle.edge_rules.specs.Edges.{is_entry, Enters, IsEdge, target}
use Rattle.edge_rules.specs.Expansion.{Seeds}
use Rattle.edge_rules.specs.Views.{key_of}
use Rattle.family_edges.specs.declared.landing.Landing.{Landing}
use Rattle.family_edges.specs.Landings.{AreLandings, AreLandingsTo}
use Rattle.certificate.specs.declared.instance.Inst.{Inst}
use Rattle.certificate.specs.Insts.{inst_keys, need_in}
use Rattle.certificate.specs.Claims.{Claim, most_instances, seed_keys}
use Rattle.certificate.specs.Valid.{IsBounded, MeetsConditions}
use Rattle.cert_check.specs.declared.demand.Demand.{Demand}
use Rattle.cert_check.specs.declared.gathering.LandedNodes.{LandedNodes}
use Rattle.cert_check.specs.declared.verdict.Reason.TheVariants as reason
use Rattle.cert_check.specs.declared.verdict.Judgement.{Judgement}
use Rattle.cert_check.specs.declared.verdict.Judgement.TheVariants.{Accepted, Rejected}
use Rattle.cert_check.specs.Reading.{LandsOpen}
use Rattle.cert_check.specs.Verdict.{IsGap, AllLanded, IsFirstGap, IsLeastReason}
use Rattle.local_rules.specs.Site.{Task}
use Rattle.cert_check.specs.declared.demand.Outer.{Outer}

-- ---- the least of what the items of a list offer

-- An item is clear or offers a key. All are clear, or this key is the least that is offered.
abbrev pub IsLeastOffered : {X K : Type 0} → (X → Type 0) → (X → K → Type 0) → (K → K → Type 0) → List X → Option K → Type 0
IsLeastOffered {X} {K} clear offers below xs None = (x : X) → Contains xs x → clear x
IsLeastOffered {X} {K} clear offers below xs (Some k) = ((x : X) × (Contains xs x × offers x k)) × ((x : X) (m : K) → Contains xs x → offers x m → below k m)

-- the least key after one more item: unchanged if the item is clear, else the lesser of it and the item's only key
abbrev pub IsOfferNoted : {X K : Type 0} → (X → Type 0) → (X → K → Type 0) → (Option K → K → K) → Option K → X → Option K → Type 0
IsOfferNoted {X} {K} clear offers lesser old x new =
    (clear x × (new ≡ old)) ⊎ ((k : K) × (offers x k × ((m : K) → offers x m → m ≡ k) × (new ≡ Some (lesser old k))))

-- ---- edges that don't land

-- the expanded nodes have the keys of the certificate's own, in the same order
abbrev pub AreBeside : Seeds → List Node → Type 0
AreBeside own nodes = map key_of nodes ≡ seed_keys own

abbrev pub LeadsToNode : Bool → Seeds → List Node → Edge → Type 0
LeadsToNode followed own nodes e = LandsOpen followed own nodes (target e)

-- an edge that does not land offers its key
abbrev pub GapAt : Bool → Seeds → List Node → Edge → NodeKey → Type 0
GapAt followed own nodes e k = (e.to ≡ k) × IsGap followed own nodes e

abbrev pub KeyBelow : NodeKey → NodeKey → Type 0
KeyBelow a b = node_cmp a b ≢ Greater

abbrev pub lesser_key : Option NodeKey → NodeKey → NodeKey
lesser_key None k = k
lesser_key (Some b) k = if is_le (node_cmp b k) then b else k

-- the state has as many slots as the key's offset
abbrev pub HasSlots : NodeKey → AbsState → Type 0
HasSlots k s = length s.slots ≡ offset_of k.sp

-- edges lead to nodes with as many slots as their offsets
abbrev pub AreTargets : List Edge → Type 0
AreTargets edges = (e : Edge) → Contains edges e → HasSlots e.to e.state

-- ---- instances

-- the need is at most the size of the greatest SRAM
abbrev pub HasSmallNeed : Inst → Type 0
HasSmallNeed x = x.need ≤ SIZE

pub record AreInstances (insts : List Inst) : Type 0 where
  pub fit : AllByRecursion HasSmallNeed insts
  pub ascend : IsStrictlySortedBy inst_cmp (inst_keys insts)
  pub few : length insts ≤ most_instances

-- the number of a key's instance
abbrev pub number_in : List Inst → InstKey → ℕ
number_in [] key = 0
number_in (x ∷ xs) key = if same_inst x.key key then 0 else suc (number_in xs key)

abbrev pub rank_of : Option Inst → ℕ
rank_of None = 0
rank_of (Some x) = x.rank

abbrev pub need_of : Option Inst → ℕ
need_of None = 0
need_of (Some x) = x.need

-- the rank by the number of an instance
abbrev pub rank_at : List Inst → ℕ → ℕ
rank_at insts j = rank_of (slice_get insts j)

abbrev pub need_at : List Inst → ℕ → ℕ
need_at insts j = need_of (slice_get insts j)

-- ---- what nodes ask of their instances

abbrev pub offset_demand : ℕ → SpForm → List Demand
offset_demand j (Closed offset) = record { inst = j; into = None; bytes = offset } ∷ []
offset_demand j (Open offset high) = []

-- what instance j must have if another lies below it, whose base is so many bytes below its own
abbrev pub demand_below : List Inst → ℕ → ℕ → InstKey → Demand
demand_below insts j fall into = record { inst = j; into = Some (number_in insts into); bytes = fall + need_at insts (number_in insts into) }

abbrev pub below_demand : List Inst → ℕ → ℕ → InstKey → List Demand
below_demand insts j fall into = demand_below insts j fall into ∷ []

-- `back` is how many bytes a return address has
abbrev pub recur_demand : ℕ → List Inst → InstKey → Option ℕ → List Demand
recur_demand back insts inst None = []
recur_demand back insts inst (Some depth) = below_demand insts (number_in insts root_inst) (depth + back) inst

abbrev pub unless_cut : Option ℕ → List Demand → List Demand
unless_cut None demands = demands
unless_cut (Some depth) demands = []

abbrev pub entry_demand : List Entry → List Inst → ℕ → ℕ → Edge → List Demand
entry_demand A insts j fall e = if is_entry e.kind then unless_cut (cut_at A e.to.inst) (below_demand insts j fall e.to.inst) else []

-- the demand of an instance on the root, if it is cut
abbrev pub cut_demand : ℕ → List Inst → List Entry → InstKey → List Demand
cut_demand back insts A inst = recur_demand back insts inst (cut_at A inst)

-- the demand of an entry from this instance, unless the entered one is cut
abbrev pub demand_from : List Entry → List Inst → Outer → Edge → List Demand
demand_from A insts outer e = entry_demand A insts outer.inst outer.fall e

abbrev pub demands_by : List Entry → List Inst → Outer → List Edge → List Demand
demands_by A insts outer edges = flat_map (demand_from A insts outer) edges

-- the demands of a node with this key and these edges
abbrev pub demands_of : Task → List Inst → NodeKey → List Edge → List Demand
demands_of task insts k edges =
    offset_demand (number_in insts k.inst) k.sp
    ++ (recur_demand (back_of (device_of task.flash)) insts k.inst (cut_at task.assumptions k.inst)
    ++ flat_map (entry_demand task.assumptions insts (number_in insts k.inst) (offset_of k.sp + back_of (device_of task.flash))) edges)

-- A node demands a closed offset of its instance. For each entry of another instance that isn't cut it demands a higher rank, and that
-- instance's need plus the offset and the bytes of a return address. A node of a cut instance demands the same of the root, at the depth of the line.
pub data AsksFor (task : Task) (insts : List Inst) (n : Node) : Demand → Type 0 where
  offset : (o : ℕ) → n.key.sp ≡ Closed o → AsksFor task insts n (record { inst = number_in insts n.key.inst; into = None; bytes = o })
  entry : (way : EdgeKind) (inst : InstKey) (back : ℕ) → Enters task n way inst back → cut_at task.assumptions inst ≡ None
      → AsksFor task insts n (demand_below insts (number_in insts n.key.inst) (offset_of n.key.sp + back_of (device_of task.flash)) inst)
  recur : (depth : ℕ) → cut_at task.assumptions n.key.inst ≡ Some depth
      → AsksFor task insts n (demand_below insts (number_in insts root_inst) (depth + back_of (device_of task.flash)) n.key.inst)

-- some of these nodes makes this demand
pub record IsAsked (task : Task) (insts : List Inst) (nodes : List Node) (d : Demand) : Type 0 where
  pub node : Node
  pub present : Contains nodes node
  pub asks : AsksFor task insts node d

abbrev pub AreDemands : Task → List Inst → List Node → List Demand → Type 0
AreDemands task insts nodes demands = (d : Demand) → Contains demands d ↔ IsAsked task insts nodes d

-- the instances of all nodes are in the list
abbrev pub AllBelong : List Inst → List Node → Type 0
AllBelong insts nodes = (n : Node) → Contains nodes n → Contains (inst_keys insts) n.key.inst

-- all edges land, these are the demands, and the landings of each node; else the first gap
abbrev pub IsGathering : Task → Seeds → List Inst → List Node → Judgement LandedNodes → Type 0
IsGathering task own insts nodes (Accepted g) = AllLanded task own nodes × AreDemands task insts nodes g.demands.items × AreLandings task nodes g.landings
IsGathering task own insts nodes (Rejected (reason.Edge j to)) = IsFirstGap task own nodes j to
IsGathering task own insts nodes (Rejected r) = ⊥

-- ---- which demands aren't met

-- instances by number, the upper one first
abbrev pub NumberPair : Type 0
NumberPair = ℕ × ℕ

-- the rank of an instance is above that of the entered one
abbrev pub MeetsRank : List Inst → Demand → Type 0
MeetsRank insts d = (l : ℕ) → d.into ≡ Some l → rank_at insts l < rank_at insts d.inst

abbrev pub LowRank : List Inst → Demand → NumberPair → Type 0
LowRank insts d p = (d.inst ≡ p.0) × (d.into ≡ Some p.1) × (rank_at insts p.0 ≤ rank_at insts p.1)

abbrev pub PairBelow : NumberPair → NumberPair → Type 0
PairBelow p q = (p.0 < q.0) ⊎ ((p.0 ≡ q.0) × (p.1 ≤ q.1))

abbrev pub lesser_pair : Option NumberPair → NumberPair → NumberPair
lesser_pair None p = p
lesser_pair (Some q) p = if nat_lt q.0 p.0 || ((q.0 == p.0) && nat_le q.1 p.1) then q else p

abbrev pub MeetsNeed : List Inst → Demand → Type 0
MeetsNeed insts d = d.bytes ≤ need_at insts d.inst

abbrev pub LowNeed : List Inst → Demand → ℕ → Type 0
LowNeed insts d j = (d.inst ≡ j) × (need_at insts j < d.bytes)

abbrev pub NumberBelow : ℕ → ℕ → Type 0
NumberBelow i j = i ≤ j

abbrev pub lesser_number : Option ℕ → ℕ → ℕ
lesser_number None j = j
lesser_number (Some i) j = if nat_le i j then i else j

-- the greatest demand on an instance, 0 if there is none
pub record IsMost (demands : List Demand) (j most : ℕ) : Type 0 where
  pub above : (d : Demand) → Contains demands d → d.inst ≡ j → d.bytes ≤ most
  pub attained : (most ≡ 0) ⊎ ((d : Demand) × (Contains demands d × (d.inst ≡ j) × (d.bytes ≡ most)))

-- the greatest demand after one more
abbrev pub more_asked : ℕ → ℕ → Demand → ℕ
more_asked most j d = if (d.inst == j) && nat_lt most d.bytes then d.bytes else most

-- the numbers of instances are below their count
abbrev pub IsInside : List Inst → Demand → Type 0
IsInside insts d = (d.inst < length insts) × ((l : ℕ) → d.into ≡ Some l → l < length insts)

abbrev pub AreDemandsInside : List Inst → List Demand → Type 0
AreDemandsInside insts demands = (d : Demand) → Contains demands d → IsInside insts d

abbrev pub RanksFall : List Inst → List Demand → Type 0
RanksFall insts demands = (d : Demand) → Contains demands d → MeetsRank insts d

abbrev pub AllMet : List Inst → List Demand → Type 0
AllMet insts demands = (d : Demand) → Contains demands d → MeetsNeed insts d

-- the verdict if all edges land and these are the demands
abbrev pub IsWeighed : Image → Claim → List Entry → List Demand → Judgement ℕ → Type 0
IsWeighed image c A demands (Accepted bound) =
    RanksFall c.instances demands × AllMet c.instances demands × IsBounded image c × (c.assumptions ≡ A) × (bound ≡ c.bound)
IsWeighed image c A demands (Rejected (reason.Rank j l)) = IsLeastOffered (MeetsRank c.instances) (LowRank c.instances) PairBelow demands (Some (j, l))
IsWeighed image c A demands (Rejected (reason.Need j need)) =
    RanksFall c.instances demands × IsLeastOffered (MeetsNeed c.instances) (LowNeed c.instances) NumberBelow demands (Some j) × IsMost demands j need
IsWeighed image c A demands (Rejected (reason.Bound need)) =
    RanksFall c.instances demands × AllMet c.instances demands × (need ≡ need_in c.instances root_inst) × (IsBounded image c → ⊥)
IsWeighed image c A demands (Rejected reason.Assumptions) =
    RanksFall c.instances demands × AllMet c.instances demands × IsBounded image c × (c.assumptions ≢ A)
IsWeighed image c A demands (Rejected r) = ⊥

-- the verdict on the expanded nodes
abbrev pub Decides : Task → Claim → List Node → Judgement ℕ → Type 0
Decides task c nodes (Accepted bound) = MeetsConditions task c nodes × (bound ≡ c.bound)
Decides task c nodes (Rejected r) = IsLeastReason task c nodes r

-- the verdict on the expanded nodes, with the landings of each node instead of the bound
abbrev pub SettlesClaim : Task → Claim → List Node → Judgement (List (List Landing)) → Type 0
SettlesClaim task c nodes (Accepted landings) = MeetsConditions task c nodes × AreLandings task nodes landings
SettlesClaim task c nodes (Rejected r) = IsLeastReason task c nodes r

-- all edges of the nodes below this number land, and the listed demands are exactly theirs
pub record IsMidway (task : Task) (own : Seeds) (insts : List Inst) (nodes : List Node) (at : ℕ) (demands : List Demand) : Type 0 where
  pub land : (i : ℕ) (n : Node) (e : Edge) → slice_get nodes i ≡ Some n → i < at → IsEdge task nodes n e → LandsOpen (has_pairs task.assumptions) own nodes (target e)
  pub asked : (d : Demand) → Contains demands d → IsAsked task insts nodes d
  pub listed : (i : ℕ) (n : Node) (d : Demand) → slice_get nodes i ≡ Some n → i < at → AsksFor task insts n d → Contains demands d

-- the nodes below this number are gathered
abbrev pub AreGathered : Task → Claim → List Node → ℕ → LandedNodes → Type 0
AreGathered task c nodes at g = IsMidway task c.nodes c.instances nodes at g.demands.items × AreLandingsTo task nodes at g.landings

-- the node of this number is gathered too, if all its edges land
abbrev pub IsNodeGathered : Task → Claim → List Node → ℕ → Option NodeKey → LandedNodes → Type 0
IsNodeGathered task c nodes at None g = AreGathered task c nodes (at + 1) g
IsNodeGathered task c nodes at (Some to) g = IsFirstGap task c.nodes nodes at to
