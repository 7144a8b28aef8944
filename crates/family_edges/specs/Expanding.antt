-- The answer of an expansion.
use Rattle.std.specs.Prelude.{ℕ, Bool, ◌≡◌, ◌<◌, ⊤, List, Option, Some, None}
use Rattle.std.specs.List.{slice_get}
use Rattle.avr_model.specs.declared.device.Device.{Device}
use Rattle.local_rules.specs.declared.local.Node.{Node}
use Rattle.local_rules.specs.Cover.{IsNodeIn}
use Rattle.edge_rules.specs.declared.seeded.NodeForm.{NodeForm}
use Rattle.edge_rules.specs.declared.seeded.NodeForm.TheVariants as form
use Rattle.edge_rules.specs.Expansion.{Seeds, IsFilled, IsMissing}
use Rattle.family_edges.specs.declared.filled.Expanded.{Expanded}
use Rattle.family_edges.specs.declared.filled.Expanded.TheVariants.{Whole, Missing}
use Rattle.local_rules.specs.Site.{Task}
use Rattle.family_edges.specs.Next.{local_of, same_in}

-- all expansions, or the least node that has none
abbrev pub IsExpanded : Task → Seeds → Expanded → Type 0
IsExpanded task nodes (Whole filled) = IsFilled task nodes filled
IsExpanded task nodes (Missing at) = IsMissing task nodes at

-- each is a node of the device's analysis, which follows pairs as `followed` says
abbrev pub AreNumbered : Device → Bool → List Node → Type 0
AreNumbered device followed nodes = (i : ℕ) (n : Node) → slice_get nodes i ≡ Some n → IsNodeIn device followed n.key n.state

-- a node that comes from another comes from one of these first ones
abbrev pub ComesFromBelow : NodeForm → ℕ → Type 0
ComesFromBelow (form.State s) count = ⊤
ComesFromBelow (form.From m) count = m < count

-- these are the successors of the node of this number, if there is a number
abbrev pub AreKept : Task → List Node → Option ℕ → List Node → Type 0
AreKept task done None nodes = ⊤
AreKept task done (Some from) nodes = (n : Node) × ((slice_get done from ≡ Some n) × (nodes ≡ same_in (local_of task n)))
