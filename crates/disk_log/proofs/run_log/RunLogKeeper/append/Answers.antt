use Rattle.std.proofs.Common.{length, sym, ◌∙◌, ap, subst, length-set}
use Rattle.outside.specs.Lists.{Appended}
use Rattle.disk_log.specs.Keeping.{LogState, told_lists}
use Rattle.disk_log.specs.Records.{Record}
use Rattle.disk_log.specs.Running.{AddsExactly}
use Rattle.disk_log.proofs.Running.{counts-many, exactly-on, lists-on, running-on}
use Rattle.disk_log.proofs.run_log.RunLogKeeper.append.Goals as goal

pub invariant_of-self : goal.invariant_of-self
invariant_of-self g c =
    running-on (g.K.Disk.history c.self.inside.log.disk) (g.K.Disk.history c.append_record-answer.new.self.disk) (g.K.Disk.failed c.self.inside.log.disk) (g.K.Disk.failed c.append_record-answer.new.self.disk) c.self.inside.log.end c.append_record-answer.new.self.end c.args.member c.args.bytes.now c.self.inside.log.shut c.append_record-answer.new.self.shut c.append_record-answer.result
    c.self.invariant c.append_record-answer.ensures.appends c.append_record-answer.ensures.shut c.append_record-answer.ensures.cause (λ is. ap (λ l. g.K.Disk.history l.disk) (c.append_record-answer.ensures.stays is)) c.append_record-answer.ensures.end c.append_record-answer.ensures.shuts

pub returns-clause-lists : goal.returns-clause-lists
returns-clause-lists g c =
    rw (← c.self.view_is) (subst (Appended (told_lists (g.K.Disk.history c.self.inside.log.disk) c.self.inside.log.end (length c.self.inside.log.counts)) (told_lists (g.K.Disk.history c.append_record-answer.new.self.disk) c.append_record-answer.new.self.end (length c.append_record-answer.new.self.counts)) c.args.member c.args.bytes.now) (sym c.passed.ensures)
    (lists-on (g.K.Disk.history c.self.inside.log.disk) (g.K.Disk.history c.append_record-answer.new.self.disk) c.self.inside.log.end c.append_record-answer.new.self.end c.args.member c.args.bytes.now (length c.self.inside.log.counts) (length c.append_record-answer.new.self.counts) c.self.inside.log.shut c.append_record-answer.result c.append_record-answer.ensures.appends c.append_record-answer.ensures.shut (λ is. ap (λ l. g.K.Disk.history l.disk) (c.append_record-answer.ensures.stays is)) c.append_record-answer.ensures.end (counts-many c.self.inside.log.counts c.args.member c.append_record-answer.result c.append_record-answer.new.self.counts c.append_record-answer.ensures.counts)))

pub returns-clause-exactly : goal.returns-clause-exactly
returns-clause-exactly g c =
    rw (← c.self.view_is) (subst (AddsExactly (g.K.Disk.history c.self.inside.log.disk) (g.K.Disk.history c.append_record-answer.new.self.disk) c.self.inside.log.end c.append_record-answer.new.self.end (record { member = c.args.member; bytes = c.args.bytes.now })) (sym c.passed.ensures)
    (exactly-on (g.K.Disk.history c.self.inside.log.disk) (g.K.Disk.history c.append_record-answer.new.self.disk) c.self.inside.log.end c.append_record-answer.new.self.end c.args.member c.args.bytes.now c.self.inside.log.shut c.append_record-answer.result c.append_record-answer.ensures.appends c.append_record-answer.ensures.shut (λ is. ap (λ l. g.K.Disk.history l.disk) (c.append_record-answer.ensures.stays is)) c.append_record-answer.ensures.end))
