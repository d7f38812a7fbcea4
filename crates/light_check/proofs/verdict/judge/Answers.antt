use Rattle.light_check.proofs.Judging.{answer_spells, answers_certified}
use Rattle.light_check.proofs.verdict.judge.Goals as goal

pub returns-in-Ok-clause-certified : goal.returns-in-Ok-clause-certified
returns-in-Ok-clause-certified g c = answer_spells c.args.committee.now (g.C.Checker.accepts c.args.checker.now) c.args.tx.now c.args.bytes.now c.in-Ok.chain c.judge_chain.result c.in-Ok.ensures.found c.judge_chain.ensures

pub returns-in-Ok-clause-only : goal.returns-in-Ok-clause-only
returns-in-Ok-clause-only g c = answers_certified c.args.committee.now (g.C.Checker.accepts c.args.checker.now) c.args.tx.now c.args.bytes.now c.in-Ok.chain c.judge_chain.result c.in-Ok.ensures.exact c.judge_chain.ensures
