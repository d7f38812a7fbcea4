use Rattle.version_assign.specs.Lines.{move_one, move_all}
use Rattle.version_assign.proofs.Lining.{move_step, stepped}
use Rattle.version_assign.proofs.lines.move_lines.Goals as goal

pub loop-rest-preserved : goal.loop-rest-preserved
loop-rest-preserved c =
    let both = stepped (move_one c.args.version c.args.tx) (move_step c.args.version c.args.tx) c.loop-rest.lines.entries c.move_line.new.lines.entries (move_all c.args.version c.args.tx c.args.lines.now.entries c.args.assigned.now) c.loop-rest.rest.now _ c.move_line.ensures c.in-len1-up.len_at_least c.loop-rest.invariant.same c.loop-rest.invariant.lined in
    record { same = both.0; lined = both.1 }
