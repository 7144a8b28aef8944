use Rattle.std.proofs.Common.{None, sym, subst}
use Rattle.round_rules.specs.declared.refusal.Refusal.TheVariants.{Memory}
use Rattle.round_rules.specs.Solutions.{AreRoundsWithout}
use Rattle.fixpoint.specs.Progress.{AreRoundsFound}
use Rattle.fixpoint.proofs.Ready.{handed_on}
use Rattle.fixpoint.proofs.ordering.sooner_family.Goals as goal
use Rattle.family_edges.specs.Tasks.{task_of}

pub returns-in-Ok-true-clause-found : goal.returns-in-Ok-true-clause-found
returns-in-Ok-true-clause-found c =
    subst (AreRoundsFound (task_of c.args.task.now) None) (sym c.family_of.ensures) (c.in-Ok-true.ensures.found c.in-Ok-true.field-0-test)

pub returns-in-Ok-false-clause-found : goal.returns-in-Ok-false-clause-found
returns-in-Ok-false-clause-found c =
    subst (AreRoundsFound (task_of c.args.task.now) None) (sym c.walked.ensures) (c.in-Ok-false.ensures.ordered c.in-Ok-false.field-0-test)

pub returns-in_err-rounds-clause-why_not : goal.returns-in_err-rounds-clause-why_not
returns-in_err-rounds-clause-why_not c =
    handed_on c.from_residual-in_err-rounds.result Memory (AreRoundsWithout (task_of c.args.task.now) None) c.from_residual-in_err-rounds.ensures.1 tt
