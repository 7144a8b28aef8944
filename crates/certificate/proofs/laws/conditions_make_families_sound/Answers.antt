use Rattle.certificate.proofs.Sound as laws
use Rattle.certificate.proofs.laws.conditions_make_families_sound.Goals as goal

pub returns : goal.returns
returns c = laws.conditions_make_families_sound
