use Rattle.std.proofs.Common.{subst}
use Rattle.std.specs.Prelude.{Result, IfOk}
use Rattle.std.proofs.lemmas.Result.{IfOk-weaker}
use Rattle.avr_model.specs.Run.{Bounded}
use Rattle.certificate.specs.Claims.{Claim}
use Rattle.guided_trials.specs.declared.attaining.AttainFault.{AttainFault}
use Rattle.guided_trials.specs.Attaining.{IsCompleted, KeepsValid}
use Rattle.local_rules.specs.Machine.{AreWords, HaveSixteenBits}
use Rattle.stack_core.proofs.Replies.{attain_reply}
use Rattle.stack_core.proofs.attaining.completed.Goals as goal
use Rattle.family_edges.specs.Tasks.{task_of}

pub returns : goal.returns
returns c =
    let has : AreWords c.args.task.now.flash.now = subst HaveSixteenBits c.words.ensures.value c.words_have_16_bits.ensures in
    let bounded : Bounded c.args.task.now.flash.now c.args.task.now.assumptions.now c.args.certificate.bound =
    c.sound_certificates_bound_every_run.ensures (task_of c.args.task.now) c.args.certificate has c.nodes-nodes.ensures.kept c.requires.sound in
    let completed = subst (λ (r : Result Claim AttainFault). IfOk r (IsCompleted c.args.task.now.flash.now c.args.task.now.assumptions.now c.args.trials c.args.certificate)) c.in-Ok.is c.attain.ensures.completed in
    let valid =
    subst (λ (r : Result Claim AttainFault). IfOk r (KeepsValid c.args.task.now.flash.now c.args.task.now.assumptions.now c.args.certificate))
    c.in-Ok.is c.attain.ensures.valid in
    IfOk-weaker c.write.result _ _
    (λ v told. attain_reply (task_of c.args.task.now) c.args.trials c.args.certificate c.in-Ok.whole v.items completed (valid bounded c.requires) told)
    c.write.ensures.text
