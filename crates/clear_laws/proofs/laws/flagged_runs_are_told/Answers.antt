use Rattle.clear_laws.proofs.AllLaws as all
use Rattle.clear_laws.proofs.laws.flagged_runs_are_told.Goals as goal

pub returns : goal.returns
returns c = record { runs = all.flagged_runs_are_told; causes = all.places_have_causes }
