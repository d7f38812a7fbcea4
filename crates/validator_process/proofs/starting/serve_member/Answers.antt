use Rattle.std.proofs.Common.{Option, length, refl, subst}
use Rattle.std.specs.Prelude.{Err}
use Rattle.outside.specs.Lists.{Journals}
use Rattle.outside.specs.Streams.{AppendsFront}
use Rattle.disk_log.specs.Keeping.{told_lists}
use Rattle.process_lines.specs.declared.starts.StartLine.{StartLine}
use Rattle.validator_core.proofs.Settling.{keeps_same}
use Rattle.validator_process.specs.declared.stop.Stop.TheVariants as stop
use Rattle.validator_process.specs.Starting.{LivesCut, start_bytes}
use Rattle.validator_process.proofs.Kept.{each_whole, more_whole}
use Rattle.validator_process.proofs.Lived.{unready, unsaid}
use Rattle.validator_process.proofs.starting.serve_member.Goals as goal

pub returns-in_default-clause-each : goal.returns-in_default-clause-each
returns-in_default-clause-each g c =
    each_whole (λ (lists : Option Journals). LivesCut (g.S.Checker.accepts c.args.sealer.now) stop.OutOfMemory c.args.validator.now (g.I.Source.left c.args.source.now) (g.I.Source.left c.args.source.now) (g.K.Sink.held c.args.sink.now) (g.K.Sink.held c.args.sink.now) (told_lists (g.F.Disk.history c.args.log.now.disk) c.args.log.now.end (length c.args.log.now.counts)) lists) (g.F.Disk.history c.args.log.now.disk) c.args.log.now.end (length c.args.log.now.counts) c.args.log.now.shut c.requires.whole (g.met.F.Disk.seen c.args.log.now.disk)
    (unsaid (g.S.Checker.accepts c.args.sealer.now) c.args.validator.now (g.I.Source.left c.args.source.now) (g.K.Sink.held c.args.sink.now) (told_lists (g.F.Disk.history c.args.log.now.disk) c.args.log.now.end (length c.args.log.now.counts)) (told_lists (g.F.Disk.history c.args.log.now.disk) c.args.log.now.end (length c.args.log.now.counts)) (keeps_same (told_lists (g.F.Disk.history c.args.log.now.disk) c.args.log.now.end (length c.args.log.now.counts))))

pub returns-in_default-clause-more : goal.returns-in_default-clause-more
returns-in_default-clause-more g c = more_whole (g.F.Disk.history c.args.log.now.disk) c.args.log.now.end (g.F.Disk.failed c.args.log.now.disk) c.args.log.now.shut c.requires.whole (g.met.F.Disk.seen c.args.log.now.disk)

pub returns-in-Err-clause-cut : goal.returns-in-Err-clause-cut
returns-in-Err-clause-cut g c =
    unready (g.S.Checker.accepts c.args.sealer.now) c.args.validator.now (g.I.Source.left c.args.source.now) (g.K.Sink.held c.args.sink.now) (g.K.Sink.held c.say_start.new.sink) (told_lists (g.F.Disk.history c.args.log.now.disk) c.args.log.now.end (length c.args.log.now.counts)) (told_lists (g.F.Disk.history c.args.log.now.disk) c.args.log.now.end (length c.args.log.now.counts)) c.in-Err.stop (Err c.in-Err.stop) refl c.in-Err.ensures.only
    (subst (λ (line : StartLine). AppendsFront (g.K.Sink.held c.args.sink.now) (g.K.Sink.held c.say_start.new.sink) (start_bytes line)) c.ready-start.ensures c.in-Err.ensures.some) (keeps_same (told_lists (g.F.Disk.history c.args.log.now.disk) c.args.log.now.end (length c.args.log.now.counts)))

pub returns-in-Err-clause-each : goal.returns-in-Err-clause-each
returns-in-Err-clause-each g c =
    each_whole (λ (lists : Option Journals). LivesCut (g.S.Checker.accepts c.args.sealer.now) c.in-Err.stop c.args.validator.now (g.I.Source.left c.args.source.now) (g.I.Source.left c.args.source.now) (g.K.Sink.held c.args.sink.now) (g.K.Sink.held c.say_start.new.sink) (told_lists (g.F.Disk.history c.args.log.now.disk) c.args.log.now.end (length c.args.log.now.counts)) lists) (g.F.Disk.history c.args.log.now.disk) c.args.log.now.end (length c.args.log.now.counts) c.args.log.now.shut c.requires.whole (g.met.F.Disk.seen c.args.log.now.disk)
    (unready (g.S.Checker.accepts c.args.sealer.now) c.args.validator.now (g.I.Source.left c.args.source.now) (g.K.Sink.held c.args.sink.now) (g.K.Sink.held c.say_start.new.sink) (told_lists (g.F.Disk.history c.args.log.now.disk) c.args.log.now.end (length c.args.log.now.counts)) (told_lists (g.F.Disk.history c.args.log.now.disk) c.args.log.now.end (length c.args.log.now.counts)) c.in-Err.stop (Err c.in-Err.stop) refl c.in-Err.ensures.only
    (subst (λ (line : StartLine). AppendsFront (g.K.Sink.held c.args.sink.now) (g.K.Sink.held c.say_start.new.sink) (start_bytes line)) c.ready-start.ensures c.in-Err.ensures.some) (keeps_same (told_lists (g.F.Disk.history c.args.log.now.disk) c.args.log.now.end (length c.args.log.now.counts))))

pub returns-in-Err-clause-more : goal.returns-in-Err-clause-more
returns-in-Err-clause-more g c = more_whole (g.F.Disk.history c.args.log.now.disk) c.args.log.now.end (g.F.Disk.failed c.args.log.now.disk) c.args.log.now.shut c.requires.whole (g.met.F.Disk.seen c.args.log.now.disk)
