use Rattle.headline_law.proofs.Reciting.{report-calm}
use Rattle.headline_law.proofs.reports.reports_are_calm.Goals as goal

pub returns : goal.returns
returns c = report-calm
