use Rattle.std.proofs.Common.{subst}
use Rattle.cert_format.specs.Reading.{certificate_in}
use Rattle.replies.specs.declared.status.Status.TheVariants as exit
use Rattle.replies.specs.Reply.{AttainReply}
use Rattle.stack_core.specs.Answering.{IsJudgedAs}
use Rattle.stack_core.proofs.Replies.{accepted_reply}
use Rattle.stack_core.proofs.attaining.attain.Goals as goal
use Rattle.family_edges.specs.Tasks.{task_of}

pub completed-requires : goal.completed-requires
completed-requires c = (subst (IsJudgedAs (task_of c.args.task.now) (certificate_in c.args.task.now.flash.now.device c.args.text.now)) c.in-Accepted.is c.in_ok-certificate.ensures).0.1

pub returns-in_ok-completed-in-Accepted : goal.returns-in_ok-completed-in-Accepted
returns-in_ok-completed-in-Accepted c =
    accepted_reply (task_of c.args.task.now) (AttainReply (task_of c.args.task.now) c.args.trials) (certificate_in c.args.task.now.flash.now.device c.args.text.now) c.in-Accepted.certificate exit.Done
    c.in_ok-completed-in-Accepted.field-0.items
    (subst (IsJudgedAs (task_of c.args.task.now) (certificate_in c.args.task.now.flash.now.device c.args.text.now)) c.in-Accepted.is c.in_ok-certificate.ensures).0
    c.in_ok-completed-in-Accepted.ensures
