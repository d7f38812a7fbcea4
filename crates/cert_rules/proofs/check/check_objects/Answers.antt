use Rattle.cert_rules.proofs.Whole.{same_few}
use Rattle.cert_rules.proofs.check.check_objects.Goals as goal

pub returns-then-has_each_origin-clause-few : goal.returns-then-has_each_origin-clause-few
returns-then-has_each_origin-clause-few c = same_few c.args.cert.now c.in-Ok.ensures.few c.if-has_each_origin.ensures
