-- Definitions for the contracts of internal functions.
use Rattle.std.specs.Prelude.{ℕ, ◌+◌, ◌-◌, ◌≡◌, ◌<◌, ◌≤◌, ◌↔◌, ⊤, Bool, if◌then◌else◌, List, [], ◌∷◌, length, map, Option, Some, None, slice_index_or, Contains}
use Rattle.std.specs.List.{flat_map}
use Rattle.local_rules.specs.declared.local.Node.{Node}
use Rattle.edge_rules.specs.Edges.{is_entry}
use Rattle.family_edges.specs.declared.landing.Landing.{Landing}
use Rattle.avr_model.specs.State.{SIZE}
use Rattle.instance_graph.specs.declared.graph.Link.{Link}
use Rattle.instance_graph.specs.declared.graph.GraphWay.{GraphWay}
use Rattle.instance_graph.specs.declared.graph.GraphWay.TheVariants.{Enters, Recur}
use Rattle.edge_rules.specs.Families.{IsCovered}
use Rattle.certificate.specs.Valid.{reset_node, AllLand}
use Rattle.shortest_walk.specs.Graph.{PointsTo}
use Rattle.chain_explain.specs.Walks.{MovesTo}
use Rattle.local_rules.specs.Site.{Task}
use Rattle.chain_explain.specs.Reached.{AreReached}

-- ---- where edges lead, by the numbers of nodes

abbrev pub at_of : Landing → ℕ
at_of l = l.at

-- the target of an edge that enters no instance
abbrev pub move_of : Landing → List ℕ
move_of l = if is_entry l.kind then [] else l.at ∷ []

abbrev pub moves_of : List Landing → List ℕ
moves_of landings = flat_map move_of landings

-- for each node, the targets of its edges
abbrev pub leads_by : List (List Landing) → List (List ℕ)
leads_by all = map (map at_of) all

-- for each node, the targets of its local and return edges
abbrev pub moves_by : List (List Landing) → List (List ℕ)
moves_by all = map moves_of all

-- The moves of a family of at most 65,536 nodes with the node at reset, all of whose edges land.
pub record AreMoves (task : Task) (nodes : List Node) (moves : List (List ℕ)) : Type 0 where
  pub few : length nodes ≤ 65536
  pub count : length moves ≡ length nodes
  pub exact : (i j : ℕ) → PointsTo moves i j ↔ MovesTo task nodes i j
  pub lands : AllLand task nodes
  pub reset : IsCovered nodes (reset_node task.assumptions)

-- ---- what is marked

abbrev pub kept_by : {X : Type 0} → List Bool → List X → List X
kept_by [] xs = []
kept_by (mark ∷ marks) [] = []
kept_by (mark ∷ marks) (x ∷ xs) = if mark then x ∷ kept_by marks xs else kept_by marks xs

-- the marked nodes are the reached ones
abbrev pub AreReachedBy : Task → List Node → List Bool → Type 0
AreReachedBy task nodes marks = AreReached task nodes (kept_by marks nodes)

-- ---- the graph of one instance, by numbers from its first node on

-- moves from one of these numbers, from the first to before the last, lead to none below the first
abbrev pub StayAbove : ℕ → ℕ → List (List ℕ) → Type 0
StayAbove low high moves = (i j : ℕ) → low ≤ i → i < high → Contains (slice_index_or moves i []) j → low ≤ j

pub record IsPortion (graph : List (List ℕ)) (low count : ℕ) (portion : List (List ℕ)) : Type 0 where
  pub count_is : length portion ≡ count
  pub each : (i : ℕ) → i < count → slice_index_or portion i [] ≡ map (λ j. j - low) (slice_index_or graph (low + i) [])

-- ---- links

-- the family has the link's node; a recur link has none, and its depth is one of some device
abbrev pub IsThere : List Node → Link → Option GraphWay → Type 0
IsThere reached link (Some Recur) = link.depth ≤ SIZE
IsThere reached link (Some (Enters kind)) = link.node < length reached
IsThere reached link None = link.node < length reached

abbrev pub AreThere : List Node → List Link → Type 0
AreThere reached [] = ⊤
AreThere reached (link ∷ links) = IsThere reached link link.way × AreThere reached links
