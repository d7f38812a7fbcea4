use Rattle.headline_law.proofs.Printing.{printed-is-final}
use Rattle.headline_law.proofs.reports.printed_is_final.Goals as goal

pub returns : goal.returns
returns c = printed-is-final
