use Rattle.std.proofs.lemmas.Result.{IfOk-weaker}
use Rattle.replies.specs.Texts.{why_not_words}
use Rattle.replies.proofs.Told.{told_written}
use Rattle.replies.proofs.causes.why_not.Goals as goal

pub returns : goal.returns
returns c = IfOk-weaker c.ended.result _ _ (λ v e. told_written (why_not_words c.args.flash.now c.args.refusal.now) _ _ v.items c.new-line.ensures c.in_ok-put_why_not.ensures e) c.ended.ensures
