-- Numbers of instances, and closed nodes and edges by number.
use Rattle.std.specs.Prelude.{ℕ, ◌+◌, ◌-◌, ◌≡◌, ◌<◌, ◌≤◌, ◌↔◌, ◌⊎◌, if◌then◌else◌, List, [], ◌∷◌, ◌++◌, length, Option, Some, None, Contains, slice_get, slice_index, Result, IfOk}
use Rattle.std.specs.List.{flat_map}
use Rattle.std.specs.List.Sorted.{IsStrictlySortedBy}
use Rattle.avr_model.specs.declared.assumption.Entry.{Entry}
use Rattle.node_keys.specs.declared.keys.EdgeKind.{EdgeKind}
use Rattle.node_keys.specs.declared.keys.InstKey.{InstKey}
use Rattle.node_keys.specs.declared.keys.SpForm.{SpForm}
use Rattle.node_keys.specs.declared.keys.SpForm.TheVariants.{Closed, Open}
use Rattle.node_keys.specs.Keys.{root_inst, entry_key, cut_at}
use Rattle.node_keys.specs.Order.{inst_cmp, same_inst}
use Rattle.local_rules.specs.declared.local.Node.{Node}
use Rattle.local_laws.specs.Laws.{HasKey}
use Rattle.edge_rules.specs.Edges.{is_entry, Enters}
use Rattle.family_edges.specs.declared.landing.Landing.{Landing}
use Rattle.instance_graph.specs.declared.graph.Entered.{Entered}
use Rattle.instance_graph.specs.declared.graph.GraphInst.{GraphInst}
use Rattle.instance_graph.specs.declared.graph.ClosedNode.{ClosedNode}
use Rattle.instance_graph.specs.declared.graph.GraphWay.TheVariants.{Enters as Entry_by, Recur}
use Rattle.family_graph.specs.declared.entering.Entering.{Entering}
use Rattle.family_graph.specs.Graphs.{HasInst, IsGraphNode, IsEntryOf, IsRecurOf}
use Rattle.local_rules.specs.Site.{Task}
use Rattle.family_graph.specs.declared.building.NumberedFamily.{NumberedFamily}
use Rattle.family_graph.specs.declared.building.Parts.{Parts}

-- the instance of the node of this number has its first node, if it is cut
abbrev pub IsRooted : Task → List Node → ℕ → Type 0
IsRooted task nodes at = (n : Node) (depth : ℕ) → slice_get nodes at ≡ Some n → cut_at task.assumptions n.key.inst ≡ Some depth → HasKey nodes (entry_key n.key.inst)

-- ---- numbers

-- the number of the first instance of this key, or the length of the list if there is none
abbrev pub number_in : List InstKey → InstKey → ℕ
number_in [] inst = 0
number_in (i ∷ is) inst = if same_inst i inst then 0 else number_in is inst + 1

-- this instance is the last
pub record EndsWith (insts : List InstKey) (inst : InstKey) : Type 0 where
  pub front : List InstKey
  pub is : insts ≡ front ++ inst ∷ []

-- appends the instance, unless it is the last one already
pub data GrowsByInst (insts : List InstKey) (inst : InstKey) : List InstKey → Type 0 where
  stays : EndsWith insts inst → GrowsByInst insts inst insts
  adds : (EndsWith insts inst → ⊥) → GrowsByInst insts inst (insts ++ inst ∷ [])

-- the first nodes have these numbers, which are those of these instances
pub record AreInstNumbers (nodes : List Node) (count : ℕ) (insts : List InstKey) (numbers : List ℕ) : Type 0 where
  pub all : length numbers ≡ count
  pub few : length insts ≤ count
  pub ascending : IsStrictlySortedBy inst_cmp insts
  pub used : (inst : InstKey) → Contains insts inst → HasInst nodes inst
  pub named : (at : ℕ) (n : Node) → at < count → slice_get nodes at ≡ Some n → slice_get insts (slice_index numbers at) ≡ Some n.key.inst
  pub last : (n : Node) → 0 < count → slice_get nodes (count - 1) ≡ Some n → EndsWith insts n.key.inst

-- ---- closed nodes and edges

-- the instance that an edge with this target enters, if it enters one
abbrev pub inst_of : Option Node → InstKey
inst_of None = root_inst
inst_of (Some n) = n.key.inst

abbrev pub way_of : List Node → Landing → List Entering
way_of nodes l = if is_entry l.kind then record { kind = l.kind; inst = inst_of (slice_get nodes l.at) } ∷ [] else []

abbrev pub ways_by : List Node → List Landing → List Entering
ways_by nodes landings = flat_map (way_of nodes) landings

-- the edge of the graph for an entry by this closed node
abbrev pub entry_of : List InstKey → ClosedNode → Entering → Entered
entry_of insts p w = record { node = p.node; offset = p.offset; way = Entry_by w.kind; into = number_in insts w.inst }

-- none, if the entered instance is cut
abbrev pub unless_cut : Option ℕ → Entered → List Entered
unless_cut None e = e ∷ []
unless_cut (Some depth) e = []

abbrev pub entries_for : List Entry → List InstKey → ClosedNode → Entering → List Entered
entries_for A insts p w = unless_cut (cut_at A w.inst) (entry_of insts p w)

-- the closed nodes and edges that the node of this number adds, if it has these entries
abbrev pub AddsAt : List Entry → List InstKey → ℕ → List Entering → SpForm → List ClosedNode → List Entered → List ClosedNode → List Entered → Type 0
AddsAt A insts at ways (Open offset high) ps es ps' es' = (ps' ≡ ps) × (es' ≡ es)
AddsAt A insts at ways (Closed offset) ps es ps' es' =
    (ps' ≡ ps ++ record { node = at; offset = offset } ∷ []) × (es' ≡ es ++ flat_map (entries_for A insts (record { node = at; offset = offset })) ways)

-- the recur edge to the instance of a number below the count
pub record IsRecurTo (A : List Entry) (insts : List InstKey) (behind count : ℕ) (e : Entered) : Type 0 where
  pub way : e.way ≡ Recur
  pub node : e.node ≡ behind
  pub below : e.into < count
  pub into : InstKey
  pub leads : slice_get insts e.into ≡ Some into
  pub cut : cut_at A into ≡ Some e.offset

-- the recur edges to the first instances come besides
abbrev pub AreRecurs : List Entry → List InstKey → ℕ → ℕ → List Entered → List Entered → Type 0
AreRecurs A insts behind count old new = (e : Entered) → Contains new e ↔ (Contains old e ⊎ IsRecurTo A insts behind count e)

-- they come besides if the instance is the root
abbrev pub AreRecursOf : List Entry → List InstKey → ℕ → InstKey → List Entered → List Entered → Type 0
AreRecursOf A insts behind inst old new = (e : Entered) → Contains new e ↔ (Contains old e ⊎ ((inst ≡ root_inst) × IsRecurTo A insts behind (length insts) e))

-- a closed node between these numbers
pub record IsNodeBetween (nodes : List Node) (low high : ℕ) (p : ClosedNode) : Type 0 where
  pub above : low ≤ p.node
  pub below : p.node < high
  pub node : Node
  pub at : slice_get nodes p.node ≡ Some node
  pub closed : node.key.sp ≡ Closed p.offset

-- an edge from a node between these numbers
pub record IsEntryBetween (task : Task) (nodes : List Node) (insts : List InstKey) (low high : ℕ) (e : Entered) : Type 0 where
  pub above : low ≤ e.node
  pub below : e.node < high
  pub node : Node
  pub at : slice_get nodes e.node ≡ Some node
  pub closed : node.key.sp ≡ Closed e.offset
  pub into : InstKey
  pub leads : slice_get insts e.into ≡ Some into
  pub kind : EdgeKind
  pub way : e.way ≡ Entry_by kind
  pub back : ℕ
  pub enters : Enters task node kind into back
  pub whole : cut_at task.assumptions into ≡ None

-- an edge of this instance
pub record IsEntryFrom (task : Task) (nodes : List Node) (insts : List InstKey) (inst : InstKey) (e : Entered) : Type 0 where
  pub into : InstKey
  pub leads : slice_get insts e.into ≡ Some into
  pub edge : IsEntryOf task nodes inst into e ⊎ IsRecurOf task nodes inst into e

-- the closed nodes and edges are those of this instance
pub record IsInstOf (task : Task) (nodes : List Node) (insts : List InstKey) (inst : InstKey) (g : GraphInst) : Type 0 where
  pub key : g.key ≡ inst
  pub closed : (p : ClosedNode) → Contains g.offsets p ↔ IsGraphNode nodes inst p
  pub entered : (e : Entered) → Contains g.entered e ↔ IsEntryFrom task nodes insts inst e

-- the first instances, in the order of their numbers
pub record AreGraphInsts (task : Task) (nodes : List Node) (insts : List InstKey) (count : ℕ) (gs : List GraphInst) : Type 0 where
  pub count_is : length gs ≡ count
  pub each : (i : ℕ) (inst : InstKey) → i < count → slice_get insts i ≡ Some inst → (g : GraphInst) × (slice_get gs i ≡ Some g) × IsInstOf task nodes insts inst g

-- the instance of this number in a list, if there is no error
abbrev pub GivesInst : {E : Type 0} → Result GraphInst E → Task → List Node → List InstKey → ℕ → Type 0
GivesInst result task nodes insts i = (inst : InstKey) → slice_get insts i ≡ Some inst → IfOk result (IsInstOf task nodes insts inst)

-- ---- of a family whose instances are numbered

-- the edge for an entry by this closed node, unless the instance is cut
abbrev pub entries_added : NumberedFamily → ClosedNode → Entering → List Entered
entries_added family p w = entries_for family.task.now.assumptions.now family.numbering.now.insts.items p w

-- the closed nodes and edges that this node, which has this number, adds, if it has these entries
abbrev pub AddsNode : NumberedFamily → ℕ → Node → List Entering → Parts → Parts → Type 0
AddsNode family at n ways old new =
    AddsAt family.task.now.assumptions.now family.numbering.now.insts.items at ways n.key.sp old.offsets.items old.entered.items new.offsets.items new.entered.items
