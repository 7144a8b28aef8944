use Rattle.certificate.proofs.Sound as laws
use Rattle.certificate.proofs.laws.claims_are_seeds.Goals as goal

pub returns : goal.returns
returns c = laws.claims_are_seeds
