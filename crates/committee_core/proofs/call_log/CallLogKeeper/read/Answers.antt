use Rattle.committee_core.proofs.Calling.{calling_still}
use Rattle.committee_core.proofs.call_log.CallLogKeeper.read.Goals as goal

pub invariant_of-self : goal.invariant_of-self
invariant_of-self g c =
    calling_still g.O.Opening.faults g.O.Opening.begun (g.F.Disk.history c.self.inside.log.disk) (g.F.Disk.history c.read_from.new.log.disk) (g.F.Disk.failed c.self.inside.log.disk) (g.F.Disk.failed c.read_from.new.log.disk) c.self.inside.log.end c.read_from.new.log.end
    c.self.inside.log.counts c.read_from.new.log.counts c.self.inside.unfinished c.self.invariant c.read_from.ensures.history c.read_from.ensures.cause.later c.read_from.ensures.end c.read_from.ensures.counts
