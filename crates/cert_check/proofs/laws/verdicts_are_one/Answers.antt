use Rattle.cert_check.proofs.One as one
use Rattle.cert_check.proofs.laws.verdicts_are_one.Goals as goal

pub returns : goal.returns
returns c = one.verdicts_are_one
