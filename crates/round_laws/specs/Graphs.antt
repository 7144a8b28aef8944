-- The graph of a family: each instance with a node has a number of its own. An entered instance without a node gets one number behind
-- these, which has no edges.
use Rattle.std.specs.Prelude.{ℕ, ◌+◌, ◌≡◌, ◌<◌, ◌≤◌, ◌⊎◌, List, [], ◌∷◌, length, map, Some, slice_get, slice_index, if◌then◌else◌}
use Rattle.avr_model.specs.Devices.{device_of, back_of}
use Rattle.node_keys.specs.declared.keys.InstKey.{InstKey}
use Rattle.node_keys.specs.declared.keys.SpForm.TheVariants.{Closed}
use Rattle.node_keys.specs.declared.keys.Kind.TheVariants.{Vector}
use Rattle.node_keys.specs.Keys.{root_inst}
use Rattle.node_keys.specs.Order.{same_inst}
use Rattle.local_rules.specs.declared.local.Node.{Node}
use Rattle.instance_graph.specs.declared.graph.GraphInst.{GraphInst}
use Rattle.instance_graph.specs.declared.graph.Entered.{Entered}
use Rattle.instance_graph.specs.declared.graph.ClosedNode.{ClosedNode}
use Rattle.instance_graph.specs.Graph as graph
use Rattle.instance_graph.specs.Least.{IsLeast}
use Rattle.instance_graph.specs.Cycle.{IsNamed, group_of}
use Rattle.round_rules.specs.Refusals.{IsReEntry, IsRecursion}
use Rattle.round_rules.specs.Families.{Family, FamilyHas, FamilyHasInst}
use Rattle.round_rules.specs.Rounds.{IsEntering, IsAcyclic, AreRanks, AreNeeds, IsRootNeed}
use Rattle.local_rules.specs.Site.{Task}

-- the instance has this number
abbrev pub IsNumber : List InstKey → ℕ → InstKey → Type 0
IsNumber keys i inst = slice_get keys i ≡ Some inst

-- the number of the instance: its own, or the one behind all if it has none
abbrev pub IsNumberFor : List InstKey → ℕ → InstKey → Type 0
IsNumberFor keys i inst = IsNumber keys i inst ⊎ ((length keys ≤ i) × ((j : ℕ) → IsNumber keys j inst → ⊥))

-- an edge of the graph for this entry
pub record HasEntryEdge (keys : List InstKey) (gs : List GraphInst) (i j : InstKey) (offset : ℕ) : Type 0 where
  pub number : ℕ
  pub edge : Entered
  pub enters : graph.EntersAlong gs number edge
  pub from : IsNumber keys number i
  pub to : IsNumberFor keys edge.into j
  pub at : edge.offset ≡ offset

-- an entry of the family for this edge of the graph
pub record IsEntered (task : Task) (f : Family) (keys : List InstKey) (i : ℕ) (e : Entered) : Type 0 where
  pub inst : InstKey
  pub into : InstKey
  pub from : IsNumber keys i inst
  pub to : IsNumberFor keys e.into into
  pub entering : IsEntering task f inst into e.offset

-- a closed node of the graph for this node
pub record HasGraphNode (keys : List InstKey) (gs : List GraphInst) (inst : InstKey) (offset : ℕ) : Type 0 where
  pub number : ℕ
  pub closed : ClosedNode
  pub has : graph.HasClosedNode gs number closed
  pub of : IsNumber keys number inst
  pub at : closed.offset ≡ offset

-- a node of the family for this closed node
pub record IsFamilyNode (f : Family) (keys : List InstKey) (i offset : ℕ) : Type 0 where
  pub node : Node
  pub has : FamilyHas f node
  pub closed : node.key.sp ≡ Closed offset
  pub of : IsNumber keys i node.key.inst

pub record IsGraphOver (task : Task) (f : Family) (keys : List InstKey) (gs : List GraphInst) : Type 0 where
  pub is_graph : graph.IsGraph gs
  pub inside : length keys ≤ length gs
  pub root : IsNumber keys 0 root_inst
  pub keyed : (i : ℕ) (g : GraphInst) (inst : InstKey) → slice_get gs i ≡ Some g → IsNumber keys i inst → g.key ≡ inst
  pub once : (i j : ℕ) (inst : InstKey) → IsNumber keys i inst → IsNumber keys j inst → i ≡ j
  pub numbered : (inst : InstKey) → FamilyHasInst f inst → (i : ℕ) × IsNumber keys i inst
  pub entered : (i : ℕ) (e : Entered) → graph.EntersAlong gs i e → IsEntered task f keys i e
  pub all_entered : (i j : InstKey) (offset : ℕ) → IsEntering task f i j offset → HasEntryEdge keys gs i j offset
  pub closed : (i : ℕ) (p : ClosedNode) → graph.HasClosedNode gs i p → IsFamilyNode f keys i p.offset
  pub all_closed : (n : Node) (offset : ℕ) → FamilyHas f n → n.key.sp ≡ Closed offset → HasGraphNode keys gs n.key.inst offset

-- the value of an instance by its number, 0 if it has none
abbrev pub valued : List InstKey → List ℕ → InstKey → ℕ
valued [] xs inst = 0
valued (k ∷ ks) [] inst = 0
valued (k ∷ ks) (x ∷ xs) inst = if same_inst k inst then x else valued ks xs inst

-- The graph has the cycles of the family, and its named instance is that of the refusal. Least ranks and needs are those of the family,
-- and the least need of instance 0 is the root's. Needs remain needs if all grow by one number.
pub record GraphsTell : Type 0 where
  pub acyclic : (task : Task) (f : Family) (keys : List InstKey) (gs : List GraphInst) → IsGraphOver task f keys gs
      → ((i : ℕ) → graph.ReachesBy gs i i → ⊥) → IsAcyclic task f
  pub re_entry : (task : Task) (f : Family) (keys : List InstKey) (gs : List GraphInst) (at v : ℕ) (inst : InstKey) → IsGraphOver task f keys gs
      → IsNamed gs at → IsNumber keys at inst → inst.kind ≡ Vector v → IsReEntry task f v inst.entry
  pub recursion : (task : Task) (f : Family) (keys : List InstKey) (gs : List GraphInst) (at : ℕ) (inst : InstKey) → IsGraphOver task f keys gs
      → IsNamed gs at → IsNumber keys at inst → group_of inst.kind ≡ 1 → IsRecursion task f inst.entry
  pub named : (task : Task) (f : Family) (keys : List InstKey) (gs : List GraphInst) (at : ℕ) → IsGraphOver task f keys gs
      → IsNamed gs at → at < length keys
  pub ranks : (task : Task) (f : Family) (keys : List InstKey) (gs : List GraphInst) (ranks needs : List ℕ) → IsGraphOver task f keys gs
      → IsLeast (back_of (device_of task.flash)) gs ranks needs → AreRanks task f (valued keys ranks)
  pub least_ranks : (task : Task) (f : Family) (keys : List InstKey) (gs : List GraphInst) (ranks needs : List ℕ) (rank : InstKey → ℕ)
      → IsGraphOver task f keys gs → IsLeast (back_of (device_of task.flash)) gs ranks needs → AreRanks task f rank → (inst : InstKey) → valued keys ranks inst ≤ rank inst
  pub needs : (task : Task) (f : Family) (keys : List InstKey) (gs : List GraphInst) (ranks needs : List ℕ) (spare : ℕ) → IsGraphOver task f keys gs
      → IsLeast (back_of (device_of task.flash)) gs ranks needs → AreNeeds task f (valued keys (map (λ x. x + spare) needs))
  pub least_needs : (task : Task) (f : Family) (keys : List InstKey) (gs : List GraphInst) (ranks needs : List ℕ) (need : InstKey → ℕ)
      → IsGraphOver task f keys gs → IsLeast (back_of (device_of task.flash)) gs ranks needs → AreNeeds task f need → (inst : InstKey) → valued keys needs inst ≤ need inst
  pub root : (task : Task) (f : Family) (keys : List InstKey) (gs : List GraphInst) (ranks needs : List ℕ) → IsGraphOver task f keys gs
      → IsLeast (back_of (device_of task.flash)) gs ranks needs → IsRootNeed task f (slice_index needs 0)
