-- Nodes behind references: the node of a caller, and one that leaves its instance.
use Rattle.local_rules.specs.declared.local.Node.{Node}
use Rattle.family_edges.specs.declared.callers.Caller.{Caller}
use Rattle.family_edges.specs.declared.callers.Leaver.{Leaver as GivenLeaver}
use Rattle.family_edges.specs.Next.{Leaver, node_of}
use Rattle.family_edges.specs.declared.adding.Start.{Start}

abbrev pub caller_node : Caller → Node
caller_node caller = record { key = caller.key.now; state = caller.state.now }

abbrev pub leaver_of : GivenLeaver → Leaver
leaver_of leaver = record { exit = leaver.exit; state = leaver.state.now }

-- the node from which edges are added
abbrev pub start_node : Start → Node
start_node start = node_of start.key.now start.state.now
