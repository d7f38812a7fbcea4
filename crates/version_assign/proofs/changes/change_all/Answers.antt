use Rattle.version_assign.proofs.Changing.{change_step}
use Rattle.version_assign.proofs.changes.change_all.Goals as goal

pub loop-rest-preserved : goal.loop-rest-preserved
loop-rest-preserved c =
    change_step c.args.opening.now.entries c.loop-rest.opening.entries c.change_one.new.opening.entries c.args.changes.now c.loop-rest.rest.now _ c.in-len1-up.len_at_least c.loop-rest.invariant c.in_ok-change_one.ensures.ok
