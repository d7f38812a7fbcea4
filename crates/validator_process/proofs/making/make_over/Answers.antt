use Rattle.std.proofs.Common.{length}
use Rattle.validator_process.proofs.Kept.{more_whole}
use Rattle.validator_process.proofs.Made.{full_each}
use Rattle.validator_process.proofs.making.make_over.Goals as goal

pub returns-clause-each : goal.returns-clause-each
returns-clause-each g c =
    full_each c.args.member c.args.text.now (g.K.Sink.held c.args.sink.now) (g.K.Sink.held c.say_ended.new.sink) (g.K.Sink.faults c.args.sink.now) (g.K.Sink.faults c.say_ended.new.sink) (g.F.Disk.failed c.args.log.now.disk) (g.F.Disk.failed c.args.log.now.disk) c.say_ended.result
    (g.F.Disk.history c.args.log.now.disk) c.args.log.now.end (length c.args.log.now.counts) c.args.log.now.shut c.say_ended.ensures c.requires.whole (g.met.F.Disk.seen c.args.log.now.disk)

pub returns-clause-more : goal.returns-clause-more
returns-clause-more g c = more_whole (g.F.Disk.history c.args.log.now.disk) c.args.log.now.end (g.F.Disk.failed c.args.log.now.disk) c.args.log.now.shut c.requires.whole (g.met.F.Disk.seen c.args.log.now.disk)
