use Rattle.std.proofs.Common.{subst}
use Rattle.family_edges.specs.Exits.{GivesExits}
use Rattle.family_edges.proofs.Returning.{apart}
use Rattle.family_edges.proofs.leaving.all_exits.Goals as goal
use Rattle.family_edges.specs.Tasks.{task_of}

pub unreachable-requires : goal.unreachable-requires
unreachable-requires c =
    let nodes = c.args.nodes.now in
    apart (task_of c.args.task.now) nodes c.requires.faultless c.in-Fault.field-0 c.in-Fault.field-1
    (subst (GivesExits (task_of c.args.task.now) nodes) c.in-Fault.is c.in_ok-exits.ensures)
