use Rattle.std.proofs.Common.{Ok, sym, subst}
use Rattle.family_edges.specs.Exits.{AreExitsKnown}
use Rattle.family_edges.proofs.Exact.{answer_edges}
use Rattle.family_edges.proofs.Returning.{all_known}
use Rattle.family_edges.proofs.successors.next_with.Goals as goal
use Rattle.family_edges.specs.Tasks.{task_of}

pub listed-requires-clause-given : goal.listed-requires-clause-given
listed-requires-clause-given c =
    subst (AreExitsKnown (task_of c.args.task.now) c.args.nodes.now) (sym c.as_slice.ensures)
    (all_known (task_of c.args.task.now) c.args.nodes.now c.args.exits.now c.requires.taken)

pub returns-in-Ok : goal.returns-in-Ok
returns-in-Ok c = λ n e. answer_edges (task_of c.args.task.now) c.args.nodes.now n (Ok c.in-Ok.edges) (c.in-Ok.ensures n e)
