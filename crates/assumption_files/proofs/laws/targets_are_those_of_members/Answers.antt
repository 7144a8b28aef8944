use Rattle.assumption_files.proofs.AllLaws as laws
use Rattle.assumption_files.proofs.laws.targets_are_those_of_members.Goals as goal

pub returns : goal.returns
returns c = laws.targets_are_those_of_members
