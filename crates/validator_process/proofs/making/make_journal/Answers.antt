use Rattle.std.proofs.Common.{length}
use Rattle.disk_log.specs.Keeping.{told_lists}
use Rattle.validator_process.proofs.Made.{making}
use Rattle.validator_process.proofs.making.make_journal.Goals as goal

pub returns-in-Ok : goal.returns-in-Ok
returns-in-Ok g c =
    rw c.into_disk.ensures (making c.args.member c.args.text.now (g.F.Disk.history c.args.disk) (g.F.Disk.history c.make_over-status.new.log.disk) (g.K.Sink.held c.args.sink.now) (g.K.Sink.held c.make_over-status.new.sink) (g.K.Sink.faults c.args.sink.now) (g.K.Sink.faults c.make_over-status.new.sink) (g.F.Disk.failed c.args.disk) (g.F.Disk.failed c.make_over-status.new.log.disk) c.make_over-status.result
    (g.F.Disk.failed c.in-Ok.log.disk) (told_lists (g.F.Disk.history c.in-Ok.log.disk) c.in-Ok.log.end (length c.in-Ok.log.counts)) c.in-Ok.log.end c.make_over-status.new.log.end (length c.make_over-status.new.log.counts) (g.F.Disk.history c.in-Ok.log.disk)
    c.in-Ok.ensures.lists c.in-Ok.ensures.later c.make_over-status.ensures.ends c.make_over-status.ensures.each c.make_over-status.ensures.width c.make_over-status.ensures.more c.make_over-status.ensures.alone)
