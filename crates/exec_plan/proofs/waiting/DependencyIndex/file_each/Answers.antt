use Rattle.exec_plan.proofs.Filing.{front_filed}
use Rattle.exec_plan.proofs.waiting.DependencyIndex.file_each.Goals as goal

pub loop-rest-preserved : goal.loop-rest-preserved
loop-rest-preserved c =
    front_filed c.args.past.now c.args.admission.now.admission c.args.held.now c.loop-rest.rest.now c.loop-rest.self c.file_at.new.self c.file_at.ensures.kept c.in_ok-file_at.ensures.filed c.in-len1-up.len_at_least
    c.loop-rest.invariant
