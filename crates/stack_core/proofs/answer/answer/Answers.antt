use Rattle.std.proofs.Common.{◌∙◌, sym, ap, subst}
use Rattle.std.specs.Prelude.{◌≡◌, IfOk}
use Rattle.std.specs.Option.{option_map}
use Rattle.commands.specs.Views.{command_seen}
use Rattle.replies.specs.declared.status.Status.TheVariants as exit
use Rattle.replies.specs.Reply.{WorkReply}
use Rattle.replies.specs.Headline.{HasWords}
use Rattle.stack_core.specs.Reading.{bytes_of}
use Rattle.stack_core.specs.Clauses.{called}
use Rattle.stack_core.proofs.Answering.{worked_result, unread_result}
use Rattle.stack_core.proofs.answer.answer.Goals as goal

pub returns-in-Ok : goal.returns-in-Ok
returns-in-Ok g c =
    worked_result c.replies_are_claims.ensures.holds c.replies_are_claims.ensures.exact (called c.args.words.now) (command_seen c.in-Ok-Some.command) (g.F.Files.holds c.args.files.now)
    (g.F.Files.faults c.args.files.now) (g.F.Files.faults c.gather.new.files) (g.F.Files.blamed c.gather.new.files)
    c.in-Ok.read.firmware.items c.in-Ok.read.second.items (bytes_of c.in-Ok.read.assumptions) c.work.result
    (sym c.in-Ok-Some.ensures ∙ ap (option_map command_seen) c.in-Ok-Some.field-0-is) c.in-Ok.ensures
    (subst (λ b. IfOk c.work.result (λ r. WorkReply (command_seen c.in-Ok-Some.command) b c.in-Ok.read.second.items (bytes_of c.in-Ok.read.assumptions) r.status r.text.items)) c.deref.ensures.value
    (subst (λ b. IfOk c.work.result (λ r. WorkReply (command_seen c.in-Ok-Some.command) c.deref.result.now b (bytes_of c.in-Ok.read.assumptions) r.status r.text.items)) c.deref-in-Ok.ensures.value c.work.ensures.reply))
    (subst (λ b. IfOk c.work.result (λ r. r.status ≡ exit.Done → HasWords (command_seen c.in-Ok-Some.command) b)) c.deref.ensures.value c.work.ensures.words)

pub returns-in-Err-gather : goal.returns-in-Err-gather
returns-in-Err-gather g c =
    unread_result c.replies_are_claims.ensures.holds c.replies_are_claims.ensures.exact (called c.args.words.now) (command_seen c.in-Ok-Some.command) (g.F.Files.holds c.args.files.now)
    (g.F.Files.faults c.args.files.now) (g.F.Files.faults c.gather.new.files) (g.F.Files.blamed c.gather.new.files) c.in-Err-gather.unread c.unread_reply.result
    (sym c.in-Ok-Some.ensures ∙ ap (option_map command_seen) c.in-Ok-Some.field-0-is) c.in-Err-gather.ensures c.unread_reply.ensures
