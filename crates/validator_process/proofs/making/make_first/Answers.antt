use Rattle.std.proofs.Common.{length, refl}
use Rattle.std.specs.Prelude.{Err}
use Rattle.disk_log.specs.Keeping.{told_lists}
use Rattle.validator_process.proofs.Made.{made_each, unmade_each}
use Rattle.validator_process.proofs.making.make_first.Goals as goal

pub returns-in-Ok-clause-each : goal.returns-in-Ok-clause-each
returns-in-Ok-clause-each g c =
    made_each c.args.member c.args.text.now (g.K.Sink.held c.args.sink.now) (g.K.Sink.held c.say_ended.new.sink) (told_lists (g.F.Disk.history c.args.log.now.disk) c.args.log.now.end (length c.args.log.now.counts)) (g.K.Sink.faults c.args.sink.now) (g.K.Sink.faults c.say_ended.new.sink) (g.F.Disk.failed c.args.log.now.disk) (g.F.Disk.failed c.keep_identity.new.log.disk) c.say_ended.result
    (g.F.Disk.history c.keep_identity.new.log.disk) c.keep_identity.new.log.end (length c.keep_identity.new.log.counts) c.keep_identity.new.log.shut c.in-Ok.start c.in-Ok.ensures.made c.requires.fresh c.in-Ok.ensures.adds c.say_ended.ensures c.in-Ok.ensures.whole (g.met.F.Disk.seen c.keep_identity.new.log.disk)

pub returns-in-Err-clause-each : goal.returns-in-Err-clause-each
returns-in-Err-clause-each g c =
    rw c.status.ensures (unmade_each c.args.member c.args.text.now (g.K.Sink.held c.args.sink.now) (told_lists (g.F.Disk.history c.args.log.now.disk) c.args.log.now.end (length c.args.log.now.counts)) (g.K.Sink.faults c.args.sink.now) (g.F.Disk.failed c.args.log.now.disk) (g.F.Disk.failed c.keep_identity.new.log.disk) c.in-Err.stop (Err c.in-Err.stop)
    (length c.keep_identity.new.log.counts) (g.F.Disk.history c.keep_identity.new.log.disk) refl c.in-Err.ensures.inside c.in-Err.ensures.fault c.in-Err.ensures.each)
