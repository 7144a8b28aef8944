use Rattle.std.proofs.Common.{ap, ◌∙◌, subst}
use Rattle.avr_model.specs.declared.device.Device.{Device}
use Rattle.cert_check.specs.Verdict.{IsJudgement}
use Rattle.replies.specs.Texts.{rejected}
use Rattle.stack_core.specs.Answering.{nothing}
use Rattle.stack_core.proofs.Replies.{missed_judged, rejected_judged}
use Rattle.stack_core.proofs.judging.judge_claim.Goals as goal
use Rattle.family_edges.specs.Tasks.{task_of}

pub returns-in_ok-witness_rejected-in-Ok-Accepted : goal.returns-in_ok-witness_rejected-in-Ok-Accepted
returns-in_ok-witness_rejected-in-Ok-Accepted c =
    missed_judged (task_of c.args.task.now) nothing c.args.certificate c.in-Ok-Accepted.family c.in_ok-witness_rejected-in-Ok-Accepted.field-0.items
    (subst (IsJudgement (task_of c.args.task.now) c.args.certificate) c.in-Ok-Accepted.field-0-is c.in-Ok-Accepted.ensures.exact)
    c.is_attained.result c.is_attained.ensures c.if-is_attained.false c.in_ok-witness_rejected-in-Ok-Accepted.ensures

pub returns-in_ok-rejected-in-Ok-Rejected : goal.returns-in_ok-rejected-in-Ok-Rejected
returns-in_ok-rejected-in-Ok-Rejected c =
    rejected_judged (task_of c.args.task.now) nothing c.args.certificate c.in-Ok-Rejected.reason c.in_ok-rejected-in-Ok-Rejected.field-0.items
    (subst (IsJudgement (task_of c.args.task.now) c.args.certificate) c.in-Ok-Rejected.field-0-is c.in-Ok-Rejected.ensures.exact)
    (c.in_ok-rejected-in-Ok-Rejected.ensures ∙ ap (λ (device : Device). rejected device c.in-Ok-Rejected.reason) c.device.ensures)
