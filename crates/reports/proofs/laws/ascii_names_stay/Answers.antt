use Rattle.reports.proofs.SameReports as laws
use Rattle.reports.proofs.laws.ascii_names_stay.Goals as goal

pub returns : goal.returns
returns c = laws.ascii_names_stay
