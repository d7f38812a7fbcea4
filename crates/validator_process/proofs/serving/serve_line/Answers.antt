use Rattle.std.proofs.Common.{List, inr, length, refl, subst, sym, ℕ}
use Rattle.std.specs.Prelude.{Err, Option}
use Rattle.outside.specs.Lists.{Journals}
use Rattle.outside.specs.Streams.{AppendsFront}
use Rattle.std.specs.Io.KnownBytes.{Appends}
use Rattle.disk_log.specs.Keeping.{told_lists}
use Rattle.process_lines.specs.Requests.{request_of}
use Rattle.validator_core.proofs.Settling.{keeps_same}
use Rattle.validator_process.specs.declared.stop.Stop.TheVariants as stop
use Rattle.validator_process.specs.Growing.{AddsDue, MayAddDue}
use Rattle.validator_process.specs.Serving.{IsStoppedBy}
use Rattle.validator_process.proofs.Kept.{each_map, each_whole, more_whole}
use Rattle.validator_process.proofs.Served.{line_half_said, line_lacked, line_refused, line_served}
use Rattle.validator_process.proofs.serving.serve_line.Goals as goal

pub returns-in-Err-clause-each : goal.returns-in-Err-clause-each
returns-in-Err-clause-each g c =
    each_whole (λ (lists : Option Journals). IsStoppedBy (g.S.Checker.accepts c.args.sealer.now) stop.OutOfMemory (request_of c.args.line.now) (g.K.Sink.held c.args.sink.now) (g.K.Sink.held c.args.sink.now) (told_lists (g.F.Disk.history c.args.log.now.disk) c.args.log.now.end (length c.args.log.now.counts)) lists c.args.validator.now) (g.F.Disk.history c.args.log.now.disk) c.args.log.now.end (length c.args.log.now.counts) c.args.log.now.shut c.requires.whole (g.met.F.Disk.seen c.args.log.now.disk)
    (line_lacked (g.S.Checker.accepts c.args.sealer.now) (request_of c.args.line.now) (g.K.Sink.held c.args.sink.now) (told_lists (g.F.Disk.history c.args.log.now.disk) c.args.log.now.end (length c.args.log.now.counts)) (told_lists (g.F.Disk.history c.args.log.now.disk) c.args.log.now.end (length c.args.log.now.counts)) c.args.validator.now (keeps_same (told_lists (g.F.Disk.history c.args.log.now.disk) c.args.log.now.end (length c.args.log.now.counts))))

pub returns-in-Err-clause-more : goal.returns-in-Err-clause-more
returns-in-Err-clause-more g c = more_whole (g.F.Disk.history c.args.log.now.disk) c.args.log.now.end (g.F.Disk.failed c.args.log.now.disk) c.args.log.now.shut c.requires.whole (g.met.F.Disk.seen c.args.log.now.disk)

pub returns-in-Err-keep_due-clause-cut : goal.returns-in-Err-keep_due-clause-cut
returns-in-Err-keep_due-clause-cut g c =
    line_refused (g.S.Checker.accepts c.args.sealer.now) (request_of c.args.line.now) (g.K.Sink.held c.args.sink.now) (told_lists (g.F.Disk.history c.args.log.now.disk) c.args.log.now.end (length c.args.log.now.counts)) (told_lists (g.F.Disk.history c.keep_due.new.log.disk) c.keep_due.new.log.end (length c.keep_due.new.log.counts)) c.args.validator.now c.in-Ok.given.1 c.in-Ok.ensures.due c.in-Err-keep_due.stop (Err c.in-Err-keep_due.stop) refl c.in-Err-keep_due.ensures.inside c.in-Err-keep_due.ensures.owed
    (inr c.in-Err-keep_due.ensures.keeps)

pub returns-in-Err-keep_due-clause-each : goal.returns-in-Err-keep_due-clause-each
returns-in-Err-keep_due-clause-each g c =
    each_map (length c.keep_due.new.log.counts) (g.F.Disk.history c.keep_due.new.log.disk) (λ lists may. line_refused (g.S.Checker.accepts c.args.sealer.now) (request_of c.args.line.now) (g.K.Sink.held c.args.sink.now) (told_lists (g.F.Disk.history c.args.log.now.disk) c.args.log.now.end (length c.args.log.now.counts)) lists c.args.validator.now c.in-Ok.given.1 c.in-Ok.ensures.due c.in-Err-keep_due.stop (Err c.in-Err-keep_due.stop) refl c.in-Err-keep_due.ensures.inside c.in-Err-keep_due.ensures.owed
    (subst (λ (m : ℕ). MayAddDue (told_lists (g.F.Disk.history c.args.log.now.disk) c.args.log.now.end (length c.args.log.now.counts)) lists m c.in-Ok.given.1) (sym c.requires.member) may))
    c.in-Err-keep_due.ensures.each

pub returns-in-Ok-say-clause-ok : goal.returns-in-Ok-say-clause-ok
returns-in-Ok-say-clause-ok g c =
    line_served (g.S.Checker.accepts c.args.sealer.now) (request_of c.args.line.now) (g.K.Sink.held c.args.sink.now) (g.K.Sink.held c.say.new.sink) (told_lists (g.F.Disk.history c.args.log.now.disk) c.args.log.now.end (length c.args.log.now.counts)) (told_lists (g.F.Disk.history c.keep_due.new.log.disk) c.keep_due.new.log.end (length c.keep_due.new.log.counts)) c.args.validator.now c.in-Ok.given.0 c.in-Ok.given.1 c.in-Ok.ensures.says c.in-Ok.ensures.due
    (subst (λ (m : ℕ). AddsDue (told_lists (g.F.Disk.history c.args.log.now.disk) c.args.log.now.end (length c.args.log.now.counts)) (told_lists (g.F.Disk.history c.keep_due.new.log.disk) c.keep_due.new.log.end (length c.keep_due.new.log.counts)) m c.in-Ok.given.1) (sym c.requires.member) c.in-Ok-keep_due.ensures.adds)
    c.answer_on_paper.new.validator (subst (λ (t : List ℕ). Appends (g.K.Sink.held c.args.sink.now) (g.K.Sink.held c.say.new.sink) t) c.as_slice.ensures.value c.in-Ok-say.ensures.ok) c.in-Ok.ensures.state

pub returns-clause-cut : goal.returns-clause-cut
returns-clause-cut g c =
    line_half_said (g.S.Checker.accepts c.args.sealer.now) (request_of c.args.line.now) (g.K.Sink.held c.args.sink.now) (g.K.Sink.held c.say.new.sink) (told_lists (g.F.Disk.history c.args.log.now.disk) c.args.log.now.end (length c.args.log.now.counts)) (told_lists (g.F.Disk.history c.keep_due.new.log.disk) c.keep_due.new.log.end (length c.keep_due.new.log.counts)) c.args.validator.now c.in-Ok.given.0 c.in-Ok.given.1 c.in-Ok.ensures.says c.in-Ok.ensures.due
    (subst (λ (m : ℕ). AddsDue (told_lists (g.F.Disk.history c.args.log.now.disk) c.args.log.now.end (length c.args.log.now.counts)) (told_lists (g.F.Disk.history c.keep_due.new.log.disk) c.keep_due.new.log.end (length c.keep_due.new.log.counts)) m c.in-Ok.given.1) (sym c.requires.member) c.in-Ok-keep_due.ensures.adds)
    c.in-Err-say.stop (Err c.in-Err-say.stop) refl c.in-Err-say.ensures.only (subst (λ (t : List ℕ). AppendsFront (g.K.Sink.held c.args.sink.now) (g.K.Sink.held c.say.new.sink) t) c.as_slice.ensures.value c.in-Err-say.ensures.some)

pub returns-clause-each : goal.returns-clause-each
returns-clause-each g c =
    each_whole (λ (lists : Option Journals). IsStoppedBy (g.S.Checker.accepts c.args.sealer.now) c.in-Err-say.stop (request_of c.args.line.now) (g.K.Sink.held c.args.sink.now) (g.K.Sink.held c.say.new.sink) (told_lists (g.F.Disk.history c.args.log.now.disk) c.args.log.now.end (length c.args.log.now.counts)) lists c.args.validator.now) (g.F.Disk.history c.keep_due.new.log.disk) c.keep_due.new.log.end (length c.keep_due.new.log.counts) c.keep_due.new.log.shut c.in-Ok-keep_due.ensures.whole (g.met.F.Disk.seen c.keep_due.new.log.disk)
    (line_half_said (g.S.Checker.accepts c.args.sealer.now) (request_of c.args.line.now) (g.K.Sink.held c.args.sink.now) (g.K.Sink.held c.say.new.sink) (told_lists (g.F.Disk.history c.args.log.now.disk) c.args.log.now.end (length c.args.log.now.counts)) (told_lists (g.F.Disk.history c.keep_due.new.log.disk) c.keep_due.new.log.end (length c.keep_due.new.log.counts)) c.args.validator.now c.in-Ok.given.0 c.in-Ok.given.1 c.in-Ok.ensures.says c.in-Ok.ensures.due
    (subst (λ (m : ℕ). AddsDue (told_lists (g.F.Disk.history c.args.log.now.disk) c.args.log.now.end (length c.args.log.now.counts)) (told_lists (g.F.Disk.history c.keep_due.new.log.disk) c.keep_due.new.log.end (length c.keep_due.new.log.counts)) m c.in-Ok.given.1) (sym c.requires.member) c.in-Ok-keep_due.ensures.adds)
    c.in-Err-say.stop (Err c.in-Err-say.stop) refl c.in-Err-say.ensures.only (subst (λ (t : List ℕ). AppendsFront (g.K.Sink.held c.args.sink.now) (g.K.Sink.held c.say.new.sink) t) c.as_slice.ensures.value c.in-Err-say.ensures.some))
