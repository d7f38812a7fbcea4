use Rattle.std.proofs.Common.{length}
use Rattle.dag_pool.specs.Crews.{plan_of}
use Rattle.dag_pool.proofs.Owing.{owed_mine, owed_gone, owed_mine_else, owed_gone_else}
use Rattle.dag_pool.proofs.task.try_task.Goals as goal

pub returns-in_ok-execute-in-Mine-clause-owed : goal.returns-in_ok-execute-in-Mine-clause-owed
returns-in_ok-execute-in-Mine-clause-owed g c =
    let plan = plan_of c.args.crew.now in
    λ number o. c.in_ok-execute-in-Mine.ensures.owed number (owed_mine_else plan.edges (length plan.jobs) c.args.crew.now.workers number _ _ c.args.task _ _ (c.claim.ensures.mine c.in-Mine.is) o)

pub returns-in_ok-execute-in-Mine-clause-due : goal.returns-in_ok-execute-in-Mine-clause-due
returns-in_ok-execute-in-Mine-clause-due g c =
    let plan = plan_of c.args.crew.now in
    λ number o. c.in_ok-execute-in-Mine.ensures.owed number (owed_mine plan.edges (length plan.jobs) c.args.crew.now.workers number _ _ c.args.task _ _ (c.claim.ensures.mine c.in-Mine.is) o)

pub returns-in-Taken-clause-owed : goal.returns-in-Taken-clause-owed
returns-in-Taken-clause-owed g c =
    let plan = plan_of c.args.crew.now in
    λ number o. owed_gone_else plan.edges (length plan.jobs) c.args.crew.now.workers number _ _ c.args.task _ _ (c.claim.ensures.taken c.in-Taken.is) o

pub returns-in-Taken-clause-due : goal.returns-in-Taken-clause-due
returns-in-Taken-clause-due g c =
    let plan = plan_of c.args.crew.now in
    λ number o. owed_gone plan.edges (length plan.jobs) c.args.crew.now.workers number _ _ c.args.task _ _ (c.claim.ensures.taken c.in-Taken.is) o
