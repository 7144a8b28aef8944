-- The targets of a family's edges that do not land in it, joined by key.
use Rattle.std.specs.Prelude.{Bool, ◌≡◌, ◌⊎◌, List, Contains, ◌++◌, Result, IfOk, OnOk}
use Rattle.avr_model.specs.declared.device.Device.{Device}
use Rattle.abs_state.specs.declared.state.AbsState.{AbsState}
use Rattle.node_keys.specs.declared.keys.NodeKey.{NodeKey}
use Rattle.local_rules.specs.declared.local.Node.{Node}
use Rattle.local_laws.specs.Laws.{AreNodesIn}
use Rattle.edge_rules.specs.Families.{IsCovered}
use Rattle.edge_rules.specs.Views.{IsOwnNode}
use Rattle.round_rules.specs.Families.{Family, FamilyHas, Lands, Below, AreFormed}
use Rattle.round_laws.specs.Steps.{raised, HaveOwnKeys}
use Rattle.std.specs.Global.{Vec}

-- a node of the analysis of some device, which follows pairs if its state does
abbrev pub IsOwnState : NodeKey → AbsState → Type 0
IsOwnState k s = (device : Device) × IsOwnNode device k s

-- such nodes: of a family, and of a list
abbrev pub AreOwn : Family → Type 0
AreOwn f = (n : Node) → FamilyHas f n → IsOwnState n.key n.state

abbrev pub AreOwnNodes : List Node → Type 0
AreOwnNodes ns = (n : Node) → Contains ns n → IsOwnState n.key n.state

-- joins the node into the gathered ones, unless it lands in the family f
abbrev pub IsTargetGathered : Family → Family → Node → Family → Type 0
IsTargetGathered f old n new = (Lands f n × (new ≡ old)) ⊎ ((Lands f n → ⊥) × (new ≡ raised old n))

-- g is the join by key of those nodes that do not land in f, and has no other nodes: none of its nodes lands in f
pub record AreTargetsGathered (device : Device) (followed : Bool) (f : Family) (all : List Node) (g : Family) : Type 0 where
  pub formed : AreFormed device followed g
  pub each : (to : Node) → Contains all to → Lands f to ⊎ Lands g to
  pub least : (h : Family) → ((to : Node) → Contains all to → Lands h to) → Below g h
  pub beyond : (n : Node) → FamilyHas g n → Lands f n → ⊥

-- The items are the join by key of those nodes that do not land in f: each node lands in f or is below an item, the items land wherever
-- all nodes do, and no item lands in f.
pub record AreBeyond (device : Device) (followed : Bool) (f : Family) (all items : List Node) : Type 0 where
  pub nodes : AreNodesIn device followed items
  pub each : (to : Node) → Contains all to → Lands f to ⊎ IsCovered items to
  pub least : (h : Family) → ((to : Node) → Contains all to → Lands h to) → (n : Node) → Contains items n → Lands h n
  pub beyond : (n : Node) → Contains items n → Lands f n → ⊥
  pub apart : HaveOwnKeys items

-- on each device on which they are nodes of the analysis, these nodes are gathered besides those before them
abbrev pub GathersMore : {A E : Type 0} → Result A E → Family → Family → List Node → Family → Type 0
GathersMore result f old ns new =
    (device : Device) (followed : Bool) (before : List Node) → AreNodesIn device followed ns → AreTargetsGathered device followed f before old
    → OnOk result (AreTargetsGathered device followed f (before ++ ns) new)

-- on each device on which they are nodes of the analysis, the result is the join by key of those that do not land in f
abbrev pub FindsBeyond : {E : Type 0} → Result (Vec Node) E → Family → List Node → Type 0
FindsBeyond result f all = (device : Device) (followed : Bool) → AreNodesIn device followed all → IfOk result (λ found. AreBeyond device followed f all found.items)
