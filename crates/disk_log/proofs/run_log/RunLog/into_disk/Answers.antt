use Rattle.std.proofs.Common.{length}
use Rattle.disk_log.proofs.Running.{held_exactly, held_lists}
use Rattle.disk_log.proofs.run_log.RunLog.into_disk.Goals as goal

pub returns-clause-holds : goal.returns-clause-holds
returns-clause-holds g c =
    rw (← c.self.view_is) (held_lists (g.K.Disk.history c.self.inside.log.disk) (g.K.Disk.failed c.self.inside.log.disk) c.self.inside.log.end (length c.self.inside.log.counts) c.self.inside.log.shut c.self.invariant (g.met.K.Disk.seen c.self.inside.log.disk))

pub returns-clause-exactly : goal.returns-clause-exactly
returns-clause-exactly g c =
    rw (← c.self.view_is) (held_exactly (g.K.Disk.history c.self.inside.log.disk) (g.K.Disk.failed c.self.inside.log.disk) c.self.inside.log.end c.self.inside.log.shut c.self.invariant (g.met.K.Disk.seen c.self.inside.log.disk))
