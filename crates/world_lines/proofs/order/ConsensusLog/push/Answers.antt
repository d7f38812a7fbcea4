use Rattle.world_lines.proofs.Ordering.{orders_keepable}
use Rattle.world_lines.proofs.order.ConsensusLog.push.Goals as goal

pub returns-in_err-row-clause-keepable : goal.returns-in_err-row-clause-keepable
returns-in_err-row-clause-keepable c = orders_keepable c.self.inside.past c.self.inside.«open» c.args.self.now c.self.view_is c.self.invariant.0 c.self.invariant.1

pub returns-in_err-end-clause-keepable : goal.returns-in_err-end-clause-keepable
returns-in_err-end-clause-keepable c = orders_keepable c.self.inside.past c.self.inside.«open» c.args.self.now c.self.view_is c.self.invariant.0 c.self.invariant.1
