use Rattle.std.proofs.Common.{None}
use Rattle.inspect.proofs.Validity.{no_refusal, valid_roll}
use Rattle.inspect.proofs.certified.is_valid.Goals as goal

pub returns-in-Ok-clause-roll : goal.returns-in-Ok-clause-roll
returns-in-Ok-clause-roll g c = λ same. valid_roll c.args.committee.now (g.S.Checker.accepts c.args.sealer.now) c.args.cert.now (no_refusal _ (c.in-Ok.ensures None))
