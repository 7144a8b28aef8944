-- The edges that lead to each node, and the forms of nodes that follow from them.
use Rattle.std.specs.Prelude.{ℕ, ◌+◌, ◌≡◌, ◌<◌, ◌==◌, nat_lt, if◌then◌else◌, List, [], ◌∷◌, length, Some, slice_get, slice_set, slice_index_or}
use Rattle.abs_state.specs.declared.state.AbsState.{AbsState}
use Rattle.node_keys.specs.declared.keys.EdgeKind.{EdgeKind}
use Rattle.node_keys.specs.declared.keys.EdgeKind.TheVariants.{Local, Call, Interrupt, Return}
use Rattle.node_keys.specs.declared.keys.NodeKey.{NodeKey}
use Rattle.local_rules.specs.declared.local.Node.{Node}
use Rattle.edge_rules.specs.declared.edge.Edge.{Edge}
use Rattle.edge_rules.specs.declared.seeded.NodeForm.{NodeForm}
use Rattle.edge_rules.specs.declared.seeded.NodeForm.TheVariants.{State, From}
use Rattle.edge_rules.specs.Edges.{IsEdge}
use Rattle.edge_rules.specs.Expansion.{Seeds}
use Rattle.family_edges.specs.declared.landing.Landing.{Landing}
use Rattle.round_rules.specs.Sparse.{IsOnlyFrom}
use Rattle.fixpoint.specs.declared.leading.Lead.{Lead}
use Rattle.fixpoint.specs.declared.leading.Lead.TheVariants.{Nothing, Only, More}
use Rattle.local_rules.specs.Site.{Task}

-- ---- one edge more

-- one more local edge from the node of this number
abbrev pub moved : Lead → ℕ → Lead
moved Nothing at = Only at
moved (Only from) at = if from == at then Only from else More
moved More at = More

abbrev pub led : Lead → ℕ → EdgeKind → Lead
led lead at Local = moved lead at
led lead at Call = More
led lead at (Interrupt v clears) = More
led lead at Return = More

abbrev pub lead_at : List Lead → ℕ → Lead
lead_at leads p = slice_index_or leads p Nothing

-- one more edge from the node of this number
abbrev pub noted : ℕ → List Lead → Landing → List Lead
noted at leads l = slice_set leads l.at (led (lead_at leads l.at) at l.kind)

-- ---- all edges

-- an edge from one of the first nodes leads to this key
pub record LeadsTo (task : Task) (nodes : List Node) (count : ℕ) (k : NodeKey) (from : ℕ) (e : Edge) : Type 0 where
  pub node : Node
  pub below : from < count
  pub at : slice_get nodes from ≡ Some node
  pub is : IsEdge task nodes node e
  pub leads : e.to ≡ k

-- How edges from the first nodes lead to this key: none does, only a local one from the node of this number does, or there is no only
-- one.
abbrev pub IsLead : Task → List Node → ℕ → NodeKey → Lead → Type 0
IsLead task nodes count k Nothing = (i : ℕ) (e : Edge) → LeadsTo task nodes count k i e → ⊥
IsLead task nodes count k (Only m) =
    ((e : Edge) × LeadsTo task nodes count k m e) × ((i : ℕ) (e : Edge) → LeadsTo task nodes count k i e → (i ≡ m) × (e.kind ≡ Local))
IsLead task nodes count k More = (m : ℕ) → IsOnlyFrom task nodes k m → ⊥

-- for each node, how edges from the first nodes lead to it
pub record AreLeads (task : Task) (nodes : List Node) (count : ℕ) (leads : List Lead) : Type 0 where
  pub all : length leads ≡ length nodes
  pub each : (p : ℕ) (n : Node) → slice_get nodes p ≡ Some n → IsLead task nodes count n.key (lead_at leads p)

-- ---- forms

abbrev pub form_by : ℕ → Lead → AbsState → NodeForm
form_by at Nothing s = State s
form_by at (Only from) s = if nat_lt from at then From from else State s
form_by at More s = State s

-- the nodes with their forms, from this number on
abbrev pub forms_from : ℕ → List Lead → List Node → Seeds
forms_from at leads [] = []
forms_from at leads (n ∷ ns) = (n.key, form_by at (lead_at leads at) n.state) ∷ forms_from (at + 1) leads ns
