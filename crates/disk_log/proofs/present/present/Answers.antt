use Rattle.std.proofs.Common.{◌-◌, length}
use Rattle.std.proofs.lemmas.List.Elements.{All-take, All-drop}
use Rattle.disk_log.specs.Memory.{moment_by, settled_at}
use Rattle.disk_log.proofs.Changes.{Fits}
use Rattle.disk_log.proofs.Folding.{one_behind}
use Rattle.disk_log.proofs.present.present.Goals as goal

pub loop-rest-preserved : goal.loop-rest-preserved
loop-rest-preserved c = record {
  same = one_behind (moment_by (settled_at c.args.first.now) c.args.changes.now) c.loop-rest.moment c.in_ok-moment-2.moment c.loop-rest.rest.now c.change-item.result c.change-item.is c.in-len1-up.len_at_least c.loop-rest.invariant.same c.in_ok-moment-2.ensures;
  fit = All-take Fits (length c.loop-rest.rest.now - 1) _ (All-drop Fits 1 c.loop-rest.rest.now c.loop-rest.invariant.fit);
}
