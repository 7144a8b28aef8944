use Rattle.std.proofs.Common.{sym, subst}
use Rattle.fixpoint.specs.Progress.{AreRoundsFound}
use Rattle.fixpoint.proofs.ordering.round_family.Goals as goal
use Rattle.family_edges.specs.Tasks.{task_of}

pub returns-in-Ok-true-clause-found : goal.returns-in-Ok-true-clause-found
returns-in-Ok-true-clause-found c =
    subst (AreRoundsFound (task_of c.args.task.now) c.args.steps) (sym c.family_of.ensures) (c.in-Ok-true.ensures.found c.in-Ok-true.field-0-test)
