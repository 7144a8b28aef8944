use Rattle.cert_check.proofs.One as one
use Rattle.cert_check.proofs.laws.sound_certificates_bound_every_run.Goals as goal

pub returns : goal.returns
returns c = one.sound_certificates_bound_every_run
