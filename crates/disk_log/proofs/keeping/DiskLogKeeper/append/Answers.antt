use Rattle.std.proofs.Common.{◌≡◌, ◌+◌, length, sym, ◌∙◌, ap, subst, arith, length-set}
use Rattle.disk_log.proofs.Reading.{adds, not-shut}
use Rattle.disk_log.proofs.keeping.DiskLogKeeper.append.Goals as goal

pub returns-in-Ok-clause-lists : goal.returns-in-Ok-clause-lists
returns-in-Ok-clause-lists g c =
    adds (g.K.Disk.history c.args.self.now.disk) (g.K.Disk.history c.append_record.new.self.disk) c.args.self.now.end c.append_record.new.self.end c.args.member c.args.bytes.now (length c.args.self.now.counts) (length c.append_record.new.self.counts)
    (c.in-Ok.ensures.appends (not-shut c.args.self.now.shut (λ shut. absurd (let e = c.in-Ok.ensures.shut.1 shut in cc))))
    c.in-Ok.ensures.end
    (ap length c.in-Ok.ensures.counts ∙ length-set c.args.self.now.counts c.args.member _)
