use Rattle.validator_core.proofs.Said.{end_refused}
use Rattle.validator_core.proofs.stating.end.Goals as goal

pub returns-in-Err : goal.returns-in-Err
returns-in-Err g c = end_refused (g.S.Checker.accepts c.args.sealer.now) c.args.member c.args.state.now.member c.in-Err.refusal c.in-Err.ensures.never c.in-Err.ensures.value
