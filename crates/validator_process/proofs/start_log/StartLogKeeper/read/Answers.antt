use Rattle.std.proofs.Common.{ap}
use Rattle.validator_process.proofs.Growing.{stands_still}
use Rattle.validator_process.proofs.start_log.StartLogKeeper.read.Goals as goal

pub invariant_of-self : goal.invariant_of-self
invariant_of-self g c =
    stands_still (g.F.Disk.history c.self.inside.log.disk) (g.F.Disk.history c.read.new.self.disk) g.O.Opening.history c.self.inside.log.end c.read.new.self.end g.O.Opening.end c.self.inside.log.counts c.read.new.self.counts g.O.Opening.counts c.self.inside.log.shut c.read.new.self.shut g.O.Opening.shut
    c.self.invariant c.read.ensures.history (ap (λ l. l.end) c.read.ensures.stays) (ap (λ l. l.counts) c.read.ensures.stays) (ap (λ l. l.shut) c.read.ensures.stays)
