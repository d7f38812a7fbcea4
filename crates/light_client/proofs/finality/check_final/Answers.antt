use Rattle.light_client.proofs.Final.{passes}
use Rattle.light_client.proofs.finality.check_final.Goals as goal

pub returns-clause-acknowledged : goal.returns-clause-acknowledged
returns-clause-acknowledged g c = passes c.args.committee.now (g.C.Checker.accepts c.args.checker.now) c.args.bytes.now c.in_ok-said.said c.final_of-answer.result c.in_ok-said.ensures.found c.final_of-answer.ensures
