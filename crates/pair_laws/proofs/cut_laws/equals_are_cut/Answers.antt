use Rattle.pair_laws.proofs.AllLaws.{equals_are_cut}
use Rattle.pair_laws.proofs.cut_laws.equals_are_cut.Goals as goal

pub returns : goal.returns
returns c = equals_are_cut
