use Rattle.clear_laws.proofs.AllLaws as all
use Rattle.clear_laws.proofs.laws.flagged_runs_end_as_told.Goals as goal

pub returns : goal.returns
returns c = record { never = all.clear_firmwares_are_never_flagged; sites = all.flagged_runs_end_at_sites; places = all.flagged_runs_end_at_places }
