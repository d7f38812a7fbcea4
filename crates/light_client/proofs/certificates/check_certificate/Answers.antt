use Rattle.light_client.proofs.Votes.{passes}
use Rattle.light_client.proofs.certificates.check_certificate.Goals as goal

pub returns-clause-valid : goal.returns-clause-valid
returns-clause-valid g c = passes c.args.committee.now (g.C.Checker.accepts c.args.checker.now) c.args.bytes.now c.in_ok-cert.cert c.certified-answer.result c.in_ok-cert.ensures.found c.certified-answer.ensures
