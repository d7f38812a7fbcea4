use Rattle.std.proofs.Common.{◌≡◌, ◌-◌, arith, ap}
use Rattle.disk_log.proofs.Heads.{told-few}
use Rattle.disk_log.proofs.walk.read_next.Goals as goal

pub returns-then-left-lt10-clause-next : goal.returns-then-left-lt10-clause-next
returns-then-left-lt10-clause-next g c = told-few _ (g.K.Disk.extent c.args.disk.now) c.args.at _ (g.met.K.Disk.sized c.args.disk.now) c.requires (omega (arith, c.size.ensures.extent)) c.if-left-lt10.true
