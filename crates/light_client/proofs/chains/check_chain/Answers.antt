use Rattle.light_client.proofs.Certified.{passes}
use Rattle.light_client.proofs.chains.check_chain.Goals as goal

pub returns-clause-certified : goal.returns-clause-certified
returns-clause-certified g c = passes c.args.committee.now (g.C.Checker.accepts c.args.checker.now) c.args.bytes.now c.in_ok-chain.chain c.judged-answer.result c.in_ok-chain.ensures.found c.judged-answer.ensures
