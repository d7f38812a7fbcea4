use Rattle.std.proofs.Common.{length, refl, subst}
use Rattle.std.specs.Prelude.{Err, Result}
use Rattle.disk_log.specs.Keeping.{told_lists}
use Rattle.world_spec.specs.Seats.{Seated}
use Rattle.validator_process.specs.declared.reading.Unstarted.{Unstarted}
use Rattle.validator_process.specs.Starting.{StartsAs}
use Rattle.validator_process.proofs.Ended.{log_cut, log_lived, log_unstarted}
use Rattle.validator_process.proofs.starting.serve_over.Goals as goal

pub returns-in-Ok-served : goal.returns-in-Ok-served
returns-in-Ok-served g c =
    rw c.into_disk-disk.ensures (log_lived (g.S.Checker.accepts c.args.sealer.now) c.args.world c.args.member (g.I.Source.left c.args.source.now) (g.I.Source.left c.serve_member-served.new.source) (g.K.Sink.held c.args.sink.now) (g.K.Sink.held c.serve_member-served.new.sink) (g.I.Source.faults c.args.source.now) (g.I.Source.faults c.serve_member-served.new.source) (g.K.Sink.faults c.args.sink.now) (g.K.Sink.faults c.serve_member-served.new.sink) (g.F.Disk.history c.args.log.disk) (g.F.Disk.history c.start_from-opened.result.1.disk) c.args.log.end c.start_from-opened.result.1.end c.args.log.counts c.start_from-opened.result.1.counts c.args.log.shut c.start_from-opened.result.1.shut c.start_from-opened.ensures.stands c.requires.width
    (g.F.Disk.history c.serve_member-served.new.log.disk) c.serve_member-served.new.log.end c.serve_member-served.new.log.counts c.serve_member-served.ensures.width (g.F.Disk.failed c.args.log.disk) (g.F.Disk.failed c.start_from-opened.result.1.disk) (g.F.Disk.failed c.serve_member-served.new.log.disk) c.serve_member-served.ensures.more c.in-Ok.validator (subst (λ (r : Result Seated Unstarted). StartsAs (g.S.Checker.accepts c.args.sealer.now) c.args.world c.args.member (told_lists (g.F.Disk.history c.args.log.disk) c.args.log.end (length c.args.log.counts)) r) c.in-Ok.is c.start_from-opened.ensures.starts)
    c.serve_member-served.new.log.shut c.in-Ok-served.ensures.whole (g.met.F.Disk.seen c.serve_member-served.new.log.disk) c.in-Ok-served.ensures.lived)

pub returns-in-Err-served : goal.returns-in-Err-served
returns-in-Err-served g c =
    rw c.into_disk-disk.ensures (rw c.status.ensures (log_cut (g.S.Checker.accepts c.args.sealer.now) c.args.world c.args.member (g.I.Source.left c.args.source.now) (g.I.Source.left c.serve_member-served.new.source) (g.K.Sink.held c.args.sink.now) (g.K.Sink.held c.serve_member-served.new.sink) (g.I.Source.faults c.args.source.now) (g.I.Source.faults c.serve_member-served.new.source) (g.K.Sink.faults c.args.sink.now) (g.K.Sink.faults c.serve_member-served.new.sink) (g.F.Disk.history c.args.log.disk) (g.F.Disk.history c.start_from-opened.result.1.disk) c.args.log.end c.start_from-opened.result.1.end c.args.log.counts c.start_from-opened.result.1.counts c.args.log.shut c.start_from-opened.result.1.shut c.start_from-opened.ensures.stands c.requires.width
    (g.F.Disk.history c.serve_member-served.new.log.disk) c.serve_member-served.new.log.end c.serve_member-served.new.log.counts c.serve_member-served.ensures.width (g.F.Disk.failed c.args.log.disk) (g.F.Disk.failed c.start_from-opened.result.1.disk) (g.F.Disk.failed c.serve_member-served.new.log.disk) c.serve_member-served.ensures.more c.in-Ok.validator (subst (λ (r : Result Seated Unstarted). StartsAs (g.S.Checker.accepts c.args.sealer.now) c.args.world c.args.member (told_lists (g.F.Disk.history c.args.log.disk) c.args.log.end (length c.args.log.counts)) r) c.in-Ok.is c.start_from-opened.ensures.starts)
    c.in-Err-served.stop (Err c.in-Err-served.stop) refl c.in-Err-served.ensures.cut c.in-Err-served.ensures.each c.start_from-opened.ensures.later c.in-Err-served.ensures.read_fault c.in-Err-served.ensures.write_fault c.in-Err-served.ensures.keep_fault))

pub returns-in-Err : goal.returns-in-Err
returns-in-Err g c =
    rw c.into_disk.ensures (log_unstarted (g.S.Checker.accepts c.args.sealer.now) c.args.world c.args.member (g.I.Source.left c.args.source.now) (g.K.Sink.held c.args.sink.now) (g.K.Sink.held c.say_unstarted.new.sink) (g.I.Source.faults c.args.source.now) (g.K.Sink.faults c.args.sink.now) (g.K.Sink.faults c.say_unstarted.new.sink) (g.F.Disk.history c.args.log.disk) (g.F.Disk.history c.start_from-opened.result.1.disk) c.args.log.end c.start_from-opened.result.1.end c.args.log.counts c.start_from-opened.result.1.counts c.args.log.shut c.start_from-opened.result.1.shut c.start_from-opened.ensures.stands c.requires.width
    (g.F.Disk.failed c.args.log.disk) (g.F.Disk.failed c.start_from-opened.result.1.disk) c.say_unstarted.result c.in-Err.why c.start_from-opened.result.0 c.in-Err.is c.requires.whole (g.met.F.Disk.seen c.start_from-opened.result.1.disk)
    (subst (λ (r : Result Seated Unstarted). StartsAs (g.S.Checker.accepts c.args.sealer.now) c.args.world c.args.member (told_lists (g.F.Disk.history c.args.log.disk) c.args.log.end (length c.args.log.counts)) r) c.in-Err.is c.start_from-opened.ensures.starts) c.start_from-opened.ensures.fault c.say_unstarted.ensures)
