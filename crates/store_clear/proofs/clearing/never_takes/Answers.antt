use Rattle.std.proofs.lemmas.Result.{IfOk-weaker}
use Rattle.store_clear.proofs.clearing.never_takes.Goals as goal

pub returns : goal.returns
returns c = record { exact = IfOk-weaker c.never_takes_in-nevers.result _ _ (λ nevers are. are c.args.certificate.now c.in_ok-family.ensures.filled) c.never_takes_in-nevers.ensures.exact }
