use Rattle.std.proofs.Common.{refl}
use Rattle.disk_log.proofs.Appending.{untouched}
use Rattle.disk_log.proofs.log.append_to.Goals as goal

pub returns-in-Err-clause-recorded : goal.returns-in-Err-clause-recorded
returns-in-Err-clause-recorded g c = untouched _ _ _ c.args.index.now _ _ refl c.requires.good.kept (c.requires.good.ready refl)

pub returns-in-Err-add-clause-recorded : goal.returns-in-Err-add-clause-recorded
returns-in-Err-add-clause-recorded g c = untouched _ _ _ c.args.index.now _ _ refl c.requires.good.kept (c.requires.good.ready refl)
