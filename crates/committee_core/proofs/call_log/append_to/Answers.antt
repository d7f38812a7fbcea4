use Rattle.std.proofs.Common.{ap}
use Rattle.disk_log.proofs.Running.{counts-many}
use Rattle.committee_core.proofs.Calling.{appended_calling}
use Rattle.committee_core.proofs.CallLists.{appended_lists}
use Rattle.committee_core.proofs.call_log.append_to.Goals as goal

pub returns-clause-calling : goal.returns-clause-calling
returns-clause-calling g c = λ opened first was.
    appended_calling opened first (g.F.Disk.history c.args.log.now.disk) (g.F.Disk.history c.append_record-answer.new.self.disk) (g.F.Disk.failed c.args.log.now.disk) (g.F.Disk.failed c.append_record-answer.new.self.disk) c.args.log.now.end c.append_record-answer.new.self.end
    c.args.log.now.counts c.append_record-answer.new.self.counts c.args.member c.count.result c.args.bytes.now c.args.log.now.shut c.append_record-answer.result c.args.unfinished.now c.left_of.result c.in-Ok.begun c.is_some.result
    c.in-Ok.ensures c.count.ensures.size c.requires.known c.is_some.ensures c.if-is_some.false c.left_of.ensures
    c.append_record-answer.ensures.appends c.append_record-answer.ensures.shut c.append_record-answer.ensures.cause (λ is. ap (λ l. g.F.Disk.history l.disk) (c.append_record-answer.ensures.stays is)) c.append_record-answer.ensures.end c.append_record-answer.ensures.counts was

pub returns-clause-lists : goal.returns-clause-lists
returns-clause-lists g c =
    appended_lists (g.F.Disk.history c.args.log.now.disk) (g.F.Disk.history c.append_record-answer.new.self.disk) c.args.log.now.end c.append_record-answer.new.self.end
    c.args.log.now.counts c.append_record-answer.new.self.counts c.args.member c.count.result c.args.bytes.now c.args.log.now.shut c.append_record-answer.result c.args.unfinished.now c.left_of.result c.in-Ok.begun c.is_some.result c.passed.result
    c.in-Ok.ensures c.is_some.ensures c.if-is_some.false c.left_of.ensures c.passed.ensures
    c.append_record-answer.ensures.appends c.append_record-answer.ensures.shut (λ is. ap (λ l. g.F.Disk.history l.disk) (c.append_record-answer.ensures.stays is)) c.append_record-answer.ensures.end c.append_record-answer.ensures.counts

pub returns-clause-width : goal.returns-clause-width
returns-clause-width g c = counts-many c.args.log.now.counts c.args.member c.append_record-answer.result c.append_record-answer.new.self.counts c.append_record-answer.ensures.counts
