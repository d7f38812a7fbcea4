use Rattle.committee_core.proofs.Caught.{found, ran_cut}
use Rattle.committee_core.proofs.follow.find_verdict.Goals as goal

pub returns-in-Ok-verdict_behind-clause-finds : goal.returns-in-Ok-verdict_behind-clause-finds
returns-in-Ok-verdict_behind-clause-finds g c = found c.args.text.now c.args.member _ _ c.in-Ok.world c.in-Ok-verdict_behind.verdict c.in-Ok.ensures.ran c.in-Ok-verdict_behind.ensures

pub returns-in-Err-verdict_behind-clause-cut : goal.returns-in-Err-verdict_behind-clause-cut
returns-in-Err-verdict_behind-clause-cut g c = ran_cut c.args.text.now _ _ c.in-Ok.world c.in-Ok.ensures.ran
