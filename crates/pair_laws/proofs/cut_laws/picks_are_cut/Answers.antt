use Rattle.pair_laws.proofs.AllLaws.{picks_are_cut}
use Rattle.pair_laws.proofs.cut_laws.picks_are_cut.Goals as goal

pub returns : goal.returns
returns c = picks_are_cut
