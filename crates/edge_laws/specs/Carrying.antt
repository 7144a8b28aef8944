-- The expansion of one node, from those of the nodes before it.
use Rattle.std.specs.Prelude.{ℕ, ◌≡◌, List, [], ◌∷◌, length, if◌then◌else◌, Option, Some, None, Result, Ok, Err}
use Rattle.std.specs.List.{slice_get}
use Rattle.avr_model.specs.Assumptions.{has_pairs}
use Rattle.avr_model.specs.Devices.{device_of}
use Rattle.abs_state.specs.declared.state.AbsState.{AbsState}
use Rattle.node_keys.specs.declared.keys.NodeKey.{NodeKey}
use Rattle.node_keys.specs.Order.{same_node}
use Rattle.local_rules.specs.declared.local.Local.{Local}
use Rattle.local_rules.specs.declared.local.Node.{Node}
use Rattle.local_rules.specs.declared.local.NodeFault.{NodeFault}
use Rattle.local_rules.specs.Cover.{IsNodeIn}
use Rattle.local_rules.specs.Local.{local}
use Rattle.edge_rules.specs.declared.seeded.NodeForm.{NodeForm}
use Rattle.edge_rules.specs.declared.seeded.NodeForm.TheVariants.{State, From}
use Rattle.edge_rules.specs.Expansion.{Seeds, IsExpansion, HasKeyAt}
use Rattle.local_rules.specs.Site.{Task}

-- the state of the first node of this key
abbrev pub first_at : NodeKey → List Node → Option AbsState
first_at k [] = None
first_at k (n ∷ ns) = if same_node n.key k then Some n.state else first_at k ns

abbrev pub picked : NodeKey → Result Local NodeFault → Option AbsState
picked k (Ok l) = first_at k l.same
picked k (Err f) = None

abbrev pub carried : Task → NodeKey → Option Node → Option AbsState
carried task k None = None
carried task k (Some n) = picked k (local task n.key n.state)

abbrev pub worked : Task → List Node → NodeKey → NodeForm → Option AbsState
worked task done k (State s) = Some s
worked task done k (From m) = carried task k (slice_get done m)

-- the node of this number, with its expansion
pub record IsWorked (task : Task) (nodes : Seeds) (at : ℕ) (n : Node) : Type 0 where
  pub key : HasKeyAt nodes at n.key
  pub state : IsExpansion task nodes at n.state
  pub node : IsNodeIn (device_of task.flash) (has_pairs task.assumptions) n.key n.state

-- the first nodes with their expansions
pub record AreExpandedSoFar (task : Task) (nodes : Seeds) (at : ℕ) (done : List Node) : Type 0 where
  pub count : length done ≡ at
  pub each : (i : ℕ) (n : Node) → slice_get done i ≡ Some n → IsWorked task nodes i n
