use Rattle.reports.proofs.SameReports.{same_reports, same_explanations}
use Rattle.reports.proofs.laws.same_names_give_same_reports.Goals as goal

pub returns-clause-reports : goal.returns-clause-reports
returns-clause-reports c = same_reports

pub returns-clause-explanations : goal.returns-clause-explanations
returns-clause-explanations c = same_explanations
