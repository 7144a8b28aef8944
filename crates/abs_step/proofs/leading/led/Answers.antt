use Rattle.std.proofs.lemmas.Result.{err_from_is_err_and}
use Rattle.abs_step.proofs.Settled.{first_settled}
use Rattle.abs_step.proofs.leading.led.Goals as goal

pub returns-in_err-outside : goal.returns-in_err-outside
returns-in_err-outside c =
    let p = err_from_is_err_and c.from_residual.result c.from_residual.ensures.1 in
    rw (p.1, p.2) (λ free. first_settled _ _ (c.in_err-outside.ensures free))
