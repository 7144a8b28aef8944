use Rattle.std.proofs.Common.{sym, subst}
use Rattle.std.specs.Prelude.{◌≡◌, IfOk}
use Rattle.local_rules.specs.Machine.{HaveSixteenBits}
use Rattle.commands.specs.Views.{command_seen, work_seen}
use Rattle.replies.specs.declared.status.Status.TheVariants as exit
use Rattle.replies.specs.Reply.{WorkReply}
use Rattle.replies.specs.Headline.{HasWords}
use Rattle.stack_core.specs.Reading.{bytes_of}
use Rattle.stack_core.specs.Answering.{PreparesAs}
use Rattle.stack_core.proofs.Replies.{refused_apart, refused_reply, loaded_result, ready_words}
use Rattle.stack_core.proofs.work.work.Goals as goal

pub returns-in-Ready-clause-reply : goal.returns-in-Ready-clause-reply
returns-in-Ready-clause-reply c =
    subst (λ k. IfOk c.on_flash.result (λ r. WorkReply (command_seen k) c.args.firmware.now c.args.second.now (bytes_of c.args.list.now) r.status r.text.items)) (sym c.in-On.is)
    (loaded_result c.same_names_give_same_reports.ensures.reports c.same_names_give_same_reports.ensures.explanations c.same_names_give_same_places.ensures.places c.same_names_give_same_places.ensures.causes
    c.in-On.request.device (work_seen c.in-On.request.work) c.args.firmware.now c.args.second.now (bytes_of c.args.list.now) c.in-Ready.loaded c.in-Ready.assumptions c.on_flash.result
    (subst (PreparesAs c.in-On.request.device c.args.firmware.now (bytes_of c.args.list.now)) c.in-Ready.is c.in_ok-loaded-in-On.ensures) c.on_flash.ensures)

pub returns-in-Ready-clause-words : goal.returns-in-Ready-clause-words
returns-in-Ready-clause-words c =
    subst (λ k. IfOk c.on_flash.result (λ r. r.status ≡ exit.Done → HasWords (command_seen k) c.args.firmware.now)) (sym c.in-On.is)
    (ready_words c.in-On.request.device c.args.firmware.now (bytes_of c.args.list.now) c.in-Ready.loaded c.in-Ready.assumptions c.on_flash.result
    (subst (PreparesAs c.in-On.request.device c.args.firmware.now (bytes_of c.args.list.now)) c.in-Ready.is c.in_ok-loaded-in-On.ensures)
    (subst HaveSixteenBits c.words.ensures.value c.words_have_16_bits.ensures))

pub returns-in-Refused-clause-reply : goal.returns-in-Refused-clause-reply
returns-in-Refused-clause-reply c =
    subst (λ k. WorkReply (command_seen k) c.args.firmware.now c.args.second.now (bytes_of c.args.list.now) c.in-Refused.reply.status c.in-Refused.reply.text.items) (sym c.in-On.is)
    (refused_reply c.in-On.request.device (work_seen c.in-On.request.work) c.args.firmware.now c.args.second.now (bytes_of c.args.list.now) c.in-Refused.reply.status c.in-Refused.reply.text.items
    (subst (PreparesAs c.in-On.request.device c.args.firmware.now (bytes_of c.args.list.now)) c.in-Refused.is c.in_ok-loaded-in-On.ensures))

pub returns-in-Refused-clause-words : goal.returns-in-Refused-clause-words
returns-in-Refused-clause-words c =
    λ zero. absurd (refused_apart c.in-On.request.device c.args.firmware.now (bytes_of c.args.list.now) c.in-Refused.reply.status c.in-Refused.reply.text.items
    (subst (PreparesAs c.in-On.request.device c.args.firmware.now (bytes_of c.args.list.now)) c.in-Refused.is c.in_ok-loaded-in-On.ensures) zero)
