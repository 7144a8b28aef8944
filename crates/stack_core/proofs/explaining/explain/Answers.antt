use Rattle.std.proofs.Common.{subst}
use Rattle.cert_format.specs.Reading.{certificate_in}
use Rattle.replies.specs.Reply.{ExplainReply}
use Rattle.stack_core.specs.Answering.{IsJudgedAs}
use Rattle.stack_core.proofs.Replies.{accepted_result}
use Rattle.stack_core.proofs.explaining.explain.Goals as goal
use Rattle.family_edges.specs.Tasks.{task_of}

pub explained-requires : goal.explained-requires
explained-requires c = (subst (IsJudgedAs (task_of c.args.task.now) (certificate_in c.args.task.now.flash.now.device c.args.text.now)) c.in-Accepted.is c.in_ok-certificate.ensures).1

pub returns-in-Accepted : goal.returns-in-Accepted
returns-in-Accepted c =
    accepted_result (task_of c.args.task.now) (ExplainReply c.args.names.now (task_of c.args.task.now)) (certificate_in c.args.task.now.flash.now.device c.args.text.now) c.in-Accepted.certificate c.explained.result
    (subst (IsJudgedAs (task_of c.args.task.now) (certificate_in c.args.task.now.flash.now.device c.args.text.now)) c.in-Accepted.is c.in_ok-certificate.ensures).0 c.explained.ensures
