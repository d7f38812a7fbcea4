use Rattle.version_assign.specs.Lines.{clear_one, clear_all}
use Rattle.version_assign.proofs.Lining.{clear_step, stepped}
use Rattle.version_assign.proofs.lines.clear_lines.Goals as goal

pub loop-rest-preserved : goal.loop-rest-preserved
loop-rest-preserved c =
    let both = stepped clear_one clear_step c.loop-rest.lines.entries c.clear_line.new.lines.entries (clear_all c.args.lines.now.entries c.args.assigned.now) c.loop-rest.rest.now _ c.clear_line.ensures c.in-len1-up.len_at_least c.loop-rest.invariant.same c.loop-rest.invariant.lined in
    record { same = both.0; lined = both.1 }
