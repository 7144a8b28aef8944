use Rattle.std.proofs.Common.{List, subst}
use Rattle.avr_model.specs.declared.assumption.Entry.{Entry}
use Rattle.cert_format.specs.Reading.{certificate_in}
use Rattle.replies.specs.Reply.{ClearReply}
use Rattle.stack_core.specs.Answering.{IsJudgedAs}
use Rattle.stack_core.specs.declared.judging.Judged.TheVariants as judged
use Rattle.stack_core.proofs.Replies.{accepted_result}
use Rattle.stack_core.proofs.clearing.clear.Goals as goal
use Rattle.local_rules.specs.Site.{task_with, bare}

pub cleared-requires-clause-family : goal.cleared-requires-clause-family
cleared-requires-clause-family c = (subst (IsJudgedAs (task_with c.args.flash.now c.empty-assumptions.result) (certificate_in c.args.flash.now.device c.args.text.now)) c.in-Accepted.is c.in_ok-certificate.ensures).1

pub returns-in-Accepted : goal.returns-in-Accepted
returns-in-Accepted c =
    accepted_result (bare c.args.flash.now) (ClearReply c.args.flash.now) (certificate_in c.args.flash.now.device c.args.text.now) c.in-Accepted.certificate c.cleared.result
    (subst (λ (A : List Entry). IsJudgedAs (task_with c.args.flash.now A) (certificate_in c.args.flash.now.device c.args.text.now) (judged.Accepted c.in-Accepted.certificate c.in-Accepted.family)) c.empty-assumptions.ensures
    (subst (IsJudgedAs (task_with c.args.flash.now c.empty-assumptions.result) (certificate_in c.args.flash.now.device c.args.text.now)) c.in-Accepted.is c.in_ok-certificate.ensures)).0 c.cleared.ensures
