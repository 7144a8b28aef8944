use Rattle.std.proofs.Common.{subst}
use Rattle.std.specs.Option.{is_some}
use Rattle.cert_format.specs.Reading.{certificate_in}
use Rattle.replies.specs.declared.status.Status.TheVariants as exit
use Rattle.replies.specs.Texts.{accepted}
use Rattle.replies.specs.Reply.{Says}
use Rattle.stack_core.specs.Answering.{IsJudgedAs}
use Rattle.stack_core.proofs.Replies.{accepted_result}
use Rattle.stack_core.proofs.judging.check.Goals as goal
use Rattle.family_edges.specs.Tasks.{task_of}

pub returns-in-Accepted : goal.returns-in-Accepted
returns-in-Accepted c =
    accepted_result (task_of c.args.task.now) (λ d. Says exit.Done (accepted d.bound (is_some d.witness))) (certificate_in c.args.task.now.flash.now.device c.args.text.now) c.in-Accepted.certificate c.checked.result
    (subst (IsJudgedAs (task_of c.args.task.now) (certificate_in c.args.task.now.flash.now.device c.args.text.now)) c.in-Accepted.is c.in_ok-certificate.ensures).0
    c.checked.ensures
