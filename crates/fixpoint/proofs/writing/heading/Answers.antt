use Rattle.fixpoint.proofs.Certificates.{peopled}
use Rattle.fixpoint.proofs.writing.heading.Goals as goal
use Rattle.family_edges.specs.Tasks.{task_of}

pub entered_by-requires-clause-peopled : goal.entered_by-requires-clause-peopled
entered_by-requires-clause-peopled c =
    peopled (task_of c.args.task.now) c.args.family.now.nodes c.requires.solved c.solved_families_are_shown.ensures.shown

pub graph_of-requires-clause-peopled : goal.graph_of-requires-clause-peopled
graph_of-requires-clause-peopled c =
    peopled (task_of c.args.task.now) c.args.family.now.nodes c.requires.solved c.solved_families_are_shown.ensures.shown
