use Rattle.exec_plan.proofs.Looking.{front_digests}
use Rattle.exec_plan.proofs.planner.digests_at.Goals as goal

pub loop-rest-preserved : goal.loop-rest-preserved
loop-rest-preserved c = front_digests c.args.held.now c.loop-rest.txs c.add_digest.new.txs c.loop-rest.rest.now c.in-len1-up.len_at_least c.in_ok-add_digest.ensures c.loop-rest.invariant
