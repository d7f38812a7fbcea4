use Rattle.world_lines.proofs.ShownOrder.{one_step}
use Rattle.world_lines.proofs.directory.Directory.show_all.Goals as goal

pub loop-object-preserved : goal.loop-object-preserved
loop-object-preserved c =
    one_step c.args.self.now c.loop-object.shown.entries c.show.new.shown.entries c.args.objects.now c.loop-object.object-index _ c.loop-object-test.true c.in_ok-show.ensures c.loop-object.invariant
