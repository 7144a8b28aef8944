-- The edges of visited nodes, in the order of the code, and their targets.
use Rattle.std.specs.Prelude.{List, [], ◌∷◌, ◌++◌, map, Option, Some, None}
use Rattle.std.specs.FinMap.{get}
use Rattle.std.specs.List.{flat_map}
use Rattle.abs_state.specs.declared.state.AbsState.{AbsState}
use Rattle.node_keys.specs.declared.keys.InstKey.{InstKey}
use Rattle.local_rules.specs.declared.local.Exit.{Exit}
use Rattle.local_rules.specs.declared.local.Node.{Node}
use Rattle.edge_rules.specs.declared.edge.Edge.{Edge}
use Rattle.edge_rules.specs.Edges.{target}
use Rattle.family_edges.specs.declared.ways.Way.{Way}
use Rattle.family_edges.specs.Next.{Leaver, local_edge, node_of, return_by, interprocedural, returns_by}
use Rattle.round_table.specs.declared.crossings.Crossing.{Crossing}
use Rattle.round_table.specs.Crossings.{Groups, crossings_at}
use Rattle.round_rules.specs.Families.{Family}
use Rattle.round_steps.specs.declared.looking.Look.{Look}
use Rattle.round_steps.specs.declared.noting.Notes.{Notes}
use Rattle.family_edges.specs.declared.callers.Caller.{Caller}
use Rattle.family_edges.specs.Callers.{caller_node}
use Rattle.round_steps.specs.declared.targets.NotedFamily.{NotedFamily}

-- ---- nodes that leave an instance

abbrev pub leaver_with : Exit → Option AbsState → List Leaver
leaver_with x None = []
leaver_with x (Some s) = record { exit = x; state = s } ∷ []

-- the node that leaves its instance, if the family has it
abbrev pub noted_leaver : Family → Crossing → List Leaver
noted_leaver f c = leaver_with c.exit (get f c.node)

abbrev pub noted_leavers : Family → Groups → InstKey → List Leaver
noted_leavers f leavers inst = flat_map (noted_leaver f) (crossings_at leavers inst)

-- the return to a caller by the node that leaves its instance
abbrev pub returned_to : Family → Caller → Crossing → List Edge
returned_to f caller c = returns_by (caller_node caller) caller.way (noted_leaver f c)

-- ---- returns onward, by a node that leaves its instance

-- the way in which a node enters the instance
abbrev pub way_of : InstKey → Crossing → Way
way_of inst c = record { kind = c.kind; inst = inst; back = c.back }

-- the return to a node that enters the instance
abbrev pub onward_to : InstKey → Leaver → Crossing → Option AbsState → List Edge
onward_to inst l c None = []
onward_to inst l c (Some s) = return_by (node_of c.node s) (way_of inst c) l

abbrev pub onward_at : Family → InstKey → Leaver → Crossing → List Edge
onward_at f inst l c = onward_to inst l c (get f c.node)

abbrev pub onwards_by : Family → InstKey → Leaver → List Crossing → List Edge
onwards_by f inst l = flat_map (onward_at f inst l)

abbrev pub onwards_if : Family → Groups → InstKey → AbsState → Option Exit → List Edge
onwards_if f callers inst s None = []
onwards_if f callers inst s (Some x) = onwards_by f inst (record { exit = x; state = s }) (crossings_at callers inst)

-- ---- of nodes

-- the edges of a visited node but for those in its own frame
abbrev pub all_interprocedural : Family → Notes → Look → AbsState → List Edge
all_interprocedural f notes x s =
    interprocedural (noted_leavers f notes.leavers) (node_of x.key s) x.ways.items ++ onwards_if f notes.callers x.key.inst s x.part.exit

abbrev pub edges_if : Family → Notes → Look → Option AbsState → List Edge
edges_if f notes x None = []
edges_if f notes x (Some s) = all_interprocedural f notes x s ++ map local_edge x.part.same

-- all edges of a visited node
abbrev pub edges_of : Family → Notes → Look → List Edge
edges_of f notes x = edges_if f notes x (get f x.key)

abbrev pub targets_of : Family → Notes → Look → List Node
targets_of f notes x = map target (edges_of f notes x)

abbrev pub all_targets : Family → Notes → List Look → List Node
all_targets f notes = flat_map (targets_of f notes)

-- ---- of nodes, by a family with its notes

abbrev pub family_onwards : NotedFamily → InstKey → AbsState → Option Exit → List Edge
family_onwards family inst s x = onwards_if family.table.now family.notes.now.callers inst s x

abbrev pub family_targets : NotedFamily → Look → List Node
family_targets family x = targets_of family.table.now family.notes.now x
