-- The targets of a family's edges, by the numbers of their nodes. Source: own.
use Rattle.std.specs.Prelude.{ℕ, ◌≡◌, ◌<◌, ◌↔◌, List, [], ◌∷◌, length, Option, Some, None, Contains, slice_get, slice_index_or}
use Rattle.std.specs.List.{flat_map}
use Rattle.local_rules.specs.declared.local.Node.{Node}
use Rattle.node_keys.specs.declared.keys.EdgeKind.{EdgeKind}
use Rattle.edge_rules.specs.declared.edge.Edge.{Edge}
use Rattle.edge_rules.specs.Edges.{IsEdge}
use Rattle.edge_rules.specs.Families.{AreFaultless}
use Rattle.edge_rules.specs.Views.{index_of}
use Rattle.family_edges.specs.declared.landing.Landing.{Landing}
use Rattle.local_rules.specs.Site.{Task}

-- an edge of this kind leads from this node to the node of this number
pub record IsLanding (task : Task) (nodes : List Node) (n : Node) (l : Landing) : Type 0 where
  pub edge : Edge
  pub is : IsEdge task nodes n edge
  pub kind : l.kind ≡ edge.kind
  pub at : index_of edge.to nodes ≡ Some l.at

-- these are exactly the landings of the node
abbrev pub AreLandingsOf : Task → List Node → Node → List Landing → Type 0
AreLandingsOf task nodes n landings = (l : Landing) → Contains landings l ↔ IsLanding task nodes n l

-- the landings of the first nodes, by number
pub record AreLandingsTo (task : Task) (nodes : List Node) (count : ℕ) (all : List (List Landing)) : Type 0 where
  pub count_is : length all ≡ count
  pub each : (at : ℕ) (n : Node) → at < count → slice_get nodes at ≡ Some n → AreLandingsOf task nodes n (slice_index_or all at [])

-- no node has a fault, and these are the landings of each, by number
pub record AreLandings (task : Task) (nodes : List Node) (all : List (List Landing)) : Type 0 where
  pub faultless : AreFaultless task nodes
  pub are : AreLandingsTo task nodes (length nodes) all

-- ---- on the way there

abbrev pub landing_at : EdgeKind → Option ℕ → List Landing
landing_at kind None = []
landing_at kind (Some at) = record { kind = kind; at = at } ∷ []

-- the landing of an edge, if its target is in the family
abbrev pub landing_of : List Node → Edge → List Landing
landing_of nodes e = landing_at e.kind (index_of e.to nodes)

abbrev pub landings_by : List Node → List Edge → List Landing
landings_by nodes edges = flat_map (landing_of nodes) edges
