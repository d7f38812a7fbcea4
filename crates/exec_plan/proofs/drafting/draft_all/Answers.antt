use Rattle.version_store.specs.Stores.{held_in}
use Rattle.exec_plan.proofs.LaidOut.{front_drafted}
use Rattle.exec_plan.proofs.drafting.draft_all.Goals as goal

pub loop-rest-preserved : goal.loop-rest-preserved
loop-rest-preserved c =
    front_drafted (held_in c.args.store.now) c.args.admission.now.admission c.args.held.now c.loop-rest.draft c.add_at.new.draft c.loop-rest.rest.now c.in-len1-up.len_at_least c.in-Ok.ensures
    c.loop-rest.invariant
