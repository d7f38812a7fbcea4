use Rattle.headline_law.proofs.Saying.{every-statement}
use Rattle.headline_law.proofs.statements.every_statement_was_made.Goals as goal

pub returns : goal.returns
returns c = every-statement
