use Rattle.pair_laws.proofs.AllLaws.{bits_are_cut}
use Rattle.pair_laws.proofs.cut_laws.bits_are_cut.Goals as goal

pub returns : goal.returns
returns c = bits_are_cut
