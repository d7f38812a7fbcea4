use Rattle.headline_law.proofs.Reporting.{read-reports}
use Rattle.headline_law.proofs.reports.read_reports_hold.Goals as goal

pub returns : goal.returns
returns c = read-reports
