use Rattle.headline_law.proofs.Reporting.{reported-stands}
use Rattle.headline_law.proofs.reports.reported_stands.Goals as goal

pub returns : goal.returns
returns c = reported-stands
