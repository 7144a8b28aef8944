-- The edges from a node, in the order of the code.
use Rattle.std.specs.Prelude.{if◌then◌else◌, List, [], ◌∷◌, ◌++◌, map, Option, Some, None, Result, Ok, Err}
use Rattle.std.specs.List.{flat_map}
use Rattle.abs_state.specs.declared.state.AbsState.{AbsState}
use Rattle.abs_state.specs.Frames.{entered}
use Rattle.abs_state.specs.PairsBack.{returned}
use Rattle.node_keys.specs.declared.keys.InstKey.{InstKey}
use Rattle.node_keys.specs.declared.keys.NodeKey.{NodeKey}
use Rattle.node_keys.specs.declared.keys.EdgeKind.TheVariants as kind
use Rattle.node_keys.specs.Keys.{entry_key}
use Rattle.node_keys.specs.Order.{same_inst}
use Rattle.local_rules.specs.declared.local.Node.{Node}
use Rattle.local_rules.specs.declared.local.Local.{Local}
use Rattle.local_rules.specs.declared.local.Exit.{Exit}
use Rattle.local_rules.specs.declared.local.NodeFault.{NodeFault}
use Rattle.local_rules.specs.Local.{local}
use Rattle.edge_rules.specs.Edges.{returned_key}
use Rattle.edge_rules.specs.declared.edge.Edge.{Edge}
use Rattle.family_edges.specs.declared.ways.Way.{Way}
use Rattle.family_edges.specs.Ways.{ways_of}
use Rattle.local_rules.specs.Site.{Task}

abbrev pub node_of : NodeKey → AbsState → Node
node_of k s = record { key = k; state = s }

abbrev pub local_of : Task → Node → Result Local NodeFault
local_of task n = local task n.key n.state

abbrev pub local_edge : Node → Edge
local_edge n = record { kind = kind.Local; to = n.key; state = n.state }

abbrev pub entry_edge : AbsState → Way → Edge
entry_edge s w = record { kind = w.kind; to = entry_key w.inst; state = entered s }

-- the successors of a node in its instance; none if it has a fault
abbrev pub same_in : Result Local NodeFault → List Node
same_in (Ok l) = l.same
same_in (Err f) = []

-- the exit of a node; none if it has a fault
abbrev pub exit_in : Result Local NodeFault → Option Exit
exit_in (Ok l) = l.exit
exit_in (Err f) = None

-- a node that leaves its instance
pub record Leaver : Type 0 where
  pub exit : Exit
  pub state : AbsState

-- the target of a return to a node that entered this way; none if the states conflict
abbrev pub returned_as : NodeKey → Way → Exit → Option AbsState → Option Node
returned_as k w x None = None
returned_as k w x (Some s) = Some (record { key = returned_key w.kind k w.back x; state = s })

abbrev pub returned_node : Node → Way → Exit → AbsState → Option Node
returned_node n w x t = returned_as n.key w x (returned n.state t)

abbrev pub edge_back : Option Node → List Edge
edge_back None = []
edge_back (Some n) = record { kind = kind.Return; to = n.key; state = n.state } ∷ []

-- the edge by which a leaver returns to a node that entered its instance this way
abbrev pub return_by : Node → Way → Leaver → List Edge
return_by n w l = edge_back (returned_node n w l.exit l.state)

abbrev pub returns_by : Node → Way → List Leaver → List Edge
returns_by n w = flat_map (return_by n w)

-- the edges back from the nodes that leave the entered instance
abbrev pub returns_in : (InstKey → List Leaver) → Node → Way → List Edge
returns_in leavers n w = returns_by n w (leavers w.inst)

abbrev pub all_returns : (InstKey → List Leaver) → Node → List Way → List Edge
all_returns leavers n = flat_map (returns_in leavers n)

-- the edges into other instances, and those back from them
abbrev pub interprocedural : (InstKey → List Leaver) → Node → List Way → List Edge
interprocedural leavers n ws = map (entry_edge n.state) ws ++ all_returns leavers n ws

-- ---- in a family

abbrev pub leaver_by : AbsState → Option Exit → List Leaver
leaver_by s None = []
leaver_by s (Some x) = record { exit = x; state = s } ∷ []

-- the node, if it leaves its instance
abbrev pub leaver_at : Task → Node → List Leaver
leaver_at task n = leaver_by n.state (exit_in (local_of task n))

abbrev pub leaver_if : Task → InstKey → Node → List Leaver
leaver_if task inst n = if same_inst n.key.inst inst then leaver_at task n else []

-- the nodes that leave the instance
abbrev pub leavers_in : Task → List Node → InstKey → List Leaver
leavers_in task nodes inst = flat_map (leaver_if task inst) nodes

abbrev pub edges_with : Task → List Node → Node → List Way → Local → List Edge
edges_with task nodes n ws l = map local_edge l.same ++ interprocedural (leavers_in task nodes) n ws

-- all edges from a node with this local part
abbrev pub edges_by : Task → List Node → Node → Local → List Edge
edges_by task nodes n l = edges_with task nodes n (ways_of task n.key l.calls) l

abbrev pub next_by : Task → List Node → Node → Result Local NodeFault → Result (List Edge) NodeFault
next_by task nodes n (Ok l) = Ok (edges_by task nodes n l)
next_by task nodes n (Err f) = Err f

-- all edges from a node, or its fault
abbrev pub next_of : Task → List Node → Node → Result (List Edge) NodeFault
next_of task nodes n = next_by task nodes n (local task n.key n.state)
