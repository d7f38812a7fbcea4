use Rattle.version_assign.specs.Lines.{filled}
use Rattle.version_assign.proofs.Lining.{filled_more}
use Rattle.version_assign.proofs.lines.fill.Goals as goal

pub loop-i-preserved : goal.loop-i-preserved
loop-i-preserved c =
    filled_more (filled c.args.lines.now.entries) c.args.assigned.now c.loop-i.assigned c.loop-i.i _ c.filled.result c.loop-i.invariant c.loop-i-test.true c.filled.ensures
