use Rattle.std.proofs.Common.{length}
use Rattle.disk_log.proofs.Running.{counts-many}
use Rattle.validator_process.proofs.Kept.{adds_on, each_on, exactly_on, keeps_on, more_on, whole_on}
use Rattle.validator_process.proofs.keeping.append.Goals as goal

pub returns-clause-adds : goal.returns-clause-adds
returns-clause-adds g c =
    rw c.unkept.ensures (adds_on c.args.log.now.end c.args.list c.args.bytes.now (g.F.Disk.history c.args.log.now.disk) (g.F.Disk.history c.append_record-answer.new.self.disk) c.append_record-answer.new.self.end c.args.log.now.shut c.append_record-answer.new.self.shut c.append_record-answer.result c.requires.whole c.append_record-answer.ensures.appends c.append_record-answer.ensures.end
    (length c.args.log.now.counts) (length c.append_record-answer.new.self.counts) (counts-many c.args.log.now.counts c.args.list c.append_record-answer.result c.append_record-answer.new.self.counts c.append_record-answer.ensures.counts))

pub returns-clause-keeps : goal.returns-clause-keeps
returns-clause-keeps g c =
    rw c.unkept.ensures (keeps_on c.args.log.now.end c.args.list c.args.bytes.now (g.F.Disk.history c.args.log.now.disk) (g.F.Disk.history c.append_record-answer.new.self.disk) c.append_record-answer.new.self.end c.args.log.now.shut c.append_record-answer.new.self.shut c.append_record-answer.result c.requires.whole c.append_record-answer.ensures.appends c.append_record-answer.ensures.end
    (length c.args.log.now.counts) (length c.append_record-answer.new.self.counts) (counts-many c.args.log.now.counts c.args.list c.append_record-answer.result c.append_record-answer.new.self.counts c.append_record-answer.ensures.counts))

pub returns-clause-each : goal.returns-clause-each
returns-clause-each g c =
    rw c.unkept.ensures (each_on c.args.log.now.end c.args.list c.args.bytes.now (g.F.Disk.history c.args.log.now.disk) (g.F.Disk.history c.append_record-answer.new.self.disk) c.append_record-answer.new.self.end c.args.log.now.shut c.append_record-answer.new.self.shut c.append_record-answer.result c.requires.whole c.append_record-answer.ensures.appends c.append_record-answer.ensures.end
    (length c.args.log.now.counts) (length c.append_record-answer.new.self.counts) (counts-many c.args.log.now.counts c.args.list c.append_record-answer.result c.append_record-answer.new.self.counts c.append_record-answer.ensures.counts) (g.met.F.Disk.seen c.append_record-answer.new.self.disk))

pub returns-clause-whole : goal.returns-clause-whole
returns-clause-whole g c =
    rw c.unkept.ensures (whole_on c.args.log.now.end c.args.list c.args.bytes.now (g.F.Disk.history c.args.log.now.disk) (g.F.Disk.history c.append_record-answer.new.self.disk) c.append_record-answer.new.self.end c.args.log.now.shut c.append_record-answer.new.self.shut c.append_record-answer.result c.requires.whole c.append_record-answer.ensures.appends c.append_record-answer.ensures.end c.append_record-answer.ensures.shuts)

pub returns-clause-more : goal.returns-clause-more
returns-clause-more g c =
    more_on c.args.log.now.end c.args.list c.args.bytes.now (g.F.Disk.history c.args.log.now.disk) (g.F.Disk.history c.append_record-answer.new.self.disk) c.append_record-answer.new.self.end c.args.log.now.shut c.append_record-answer.new.self.shut c.append_record-answer.result c.requires.whole c.append_record-answer.ensures.appends c.append_record-answer.ensures.end
    (g.F.Disk.failed c.args.log.now.disk) (g.F.Disk.failed c.append_record-answer.new.self.disk) c.append_record-answer.ensures.cause (g.met.F.Disk.seen c.append_record-answer.new.self.disk)

pub returns-clause-width : goal.returns-clause-width
returns-clause-width g c = counts-many c.args.log.now.counts c.args.list c.append_record-answer.result c.append_record-answer.new.self.counts c.append_record-answer.ensures.counts

pub returns-clause-exactly : goal.returns-clause-exactly
returns-clause-exactly g c =
    rw c.unkept.ensures (exactly_on c.args.log.now.end c.args.list c.args.bytes.now (g.F.Disk.history c.args.log.now.disk) (g.F.Disk.history c.append_record-answer.new.self.disk) c.append_record-answer.new.self.end c.args.log.now.shut c.append_record-answer.new.self.shut c.append_record-answer.result c.requires.whole c.append_record-answer.ensures.appends c.append_record-answer.ensures.end)
