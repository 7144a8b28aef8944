use Rattle.family_edges.proofs.AllLaws as all
use Rattle.family_edges.proofs.laws.answers_are_exact.Goals as goal

pub returns : goal.returns
returns c = record { states = all.answers_are_exact; exits = all.exits_are_exact; edges = all.local_parts_are_edges }
