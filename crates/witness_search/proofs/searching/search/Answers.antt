use Rattle.std.proofs.Common.{subst, ℕ}
use Rattle.std.proofs.lemmas.Result.{IfOk-weaker}
use Rattle.certificate.specs.Valid.{IsAttained}
use Rattle.witness_search.proofs.Answered.{attained_as, found_as}
use Rattle.witness_search.proofs.searching.search.Goals as goal
use Rattle.family_edges.specs.Tasks.{task_of}

pub returns-clause-first : goal.returns-clause-first
returns-clause-first c =
    IfOk-weaker c.first_trial.result _ _
    (λ found h. found_as (task_of c.args.task.now) c.args.certificate.now c.in_ok-points.points.items c.deref.result.now c.bound.result found c.in_ok-points.ensures
    c.deref.ensures.value c.bound.ensures h)
    c.first_trial.ensures.first

pub returns-clause-attained : goal.returns-clause-attained
returns-clause-attained c =
    IfOk-weaker c.first_trial.result _ _
    (λ found h. subst (λ (b : ℕ). IsAttained (task_of c.args.task.now) b found) c.bound.ensures
    (attained_as (task_of c.args.task.now) c.bound.result found h))
    c.first_trial.ensures.attained
