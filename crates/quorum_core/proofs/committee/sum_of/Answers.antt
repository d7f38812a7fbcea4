use Rattle.std.proofs.Common.{arith}
use Rattle.quorum_core.proofs.Weights.{all_taken}
use Rattle.quorum_core.proofs.committee.sum_of.Goals as goal

pub returns-clause-value : goal.returns-clause-value
returns-clause-value c = all_taken c.args.stakes.now c.loop-stake.stake-index c.loop-stake.sum (omega (arith, c.loop-stake-test.false)) c.loop-stake.invariant.value
