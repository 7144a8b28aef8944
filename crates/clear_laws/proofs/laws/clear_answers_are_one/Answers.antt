use Rattle.clear_laws.proofs.AllLaws as all
use Rattle.clear_laws.proofs.laws.clear_answers_are_one.Goals as goal

pub returns : goal.returns
returns c = record { verdicts = all.clear_verdicts_are_one; sites = all.sites_are_one; places = all.places_are_one; nevers = all.nevers_are_one; clear = all.clear_where_no_sites }
