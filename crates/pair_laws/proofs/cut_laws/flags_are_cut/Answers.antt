use Rattle.pair_laws.proofs.AllLaws.{flags_are_cut}
use Rattle.pair_laws.proofs.cut_laws.flags_are_cut.Goals as goal

pub returns : goal.returns
returns c = flags_are_cut
