-- The instance that a refusal names if the graph has a cycle.
use Rattle.std.specs.Prelude.{◌≡◌, ℕ, ◌<◌, ◌≤◌, ◌⊎◌, List, Some, slice_get}
use Rattle.node_keys.specs.declared.keys.Kind.{Kind}
use Rattle.node_keys.specs.declared.keys.Kind.TheVariants.{Root, Call, Vector}
use Rattle.node_keys.specs.declared.keys.InstKey.{InstKey}
use Rattle.instance_graph.specs.declared.fault.ComposeFault.{ComposeFault}
use Rattle.instance_graph.specs.declared.fault.ComposeFault.TheVariants.{Cycle, Memory}
use Rattle.instance_graph.specs.declared.graph.GraphInst.{GraphInst}
use Rattle.instance_graph.specs.Graph.{ReachesBy}

-- instances of vectors come first
abbrev pub group_of : Kind → ℕ
group_of (Vector v) = 0
group_of Call = 1
group_of Root = 1

-- an instance of a vector is ordered by vector, any other by entry
abbrev pub number_of : Kind → ℕ → ℕ
number_of (Vector v) entry = v
number_of Call entry = entry
number_of Root entry = entry

-- instance i with key a comes up to instance j with key b: by group, then by vector or entry, then by number
abbrev pub IsNoLater : InstKey → ℕ → InstKey → ℕ → Type 0
IsNoLater a i b j =
    (group_of a.kind < group_of b.kind)
    ⊎ ((group_of a.kind ≡ group_of b.kind)
    × ((number_of a.kind a.entry < number_of b.kind b.entry) ⊎ ((number_of a.kind a.entry ≡ number_of b.kind b.entry) × (i ≤ j))))

-- the first instance on a cycle
pub record IsNamed (gs : List GraphInst) (at : ℕ) : Type 0 where
  pub reaches : ReachesBy gs at at
  pub first : (j : ℕ) (a b : GraphInst) → ReachesBy gs j j → slice_get gs at ≡ Some a → slice_get gs j ≡ Some b → IsNoLater a.key at b.key j

-- the reason for having no ranks; running out of memory gives none
abbrev pub IsFaultOf : List GraphInst → ComposeFault → Type 0
IsFaultOf gs (Cycle at) = IsNamed gs at
IsFaultOf gs Memory = Unit {0}
