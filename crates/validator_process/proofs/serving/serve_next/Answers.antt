use Rattle.std.proofs.Common.{ℕ, List, Option, length, subst}
use Rattle.outside.specs.Lists.{Journals}
use Rattle.disk_log.specs.Keeping.{told_lists}
use Rattle.process_lines.specs.Lines.{Reads}
use Rattle.process_lines.specs.Requests.{request_of}
use Rattle.validator_core.proofs.Settling.{keeps_same}
use Rattle.validator_process.specs.Serving.{IsCutBy, IsServed, IsStoppedBy, around}
use Rattle.validator_process.proofs.Kept.{each_map, each_whole, more_whole}
use Rattle.validator_process.proofs.Served.{cut_line, cut_long, cut_unread, next_line}
use Rattle.validator_process.proofs.serving.serve_next.Goals as goal

pub returns-in-Ok-clause-next : goal.returns-in-Ok-clause-next
returns-in-Ok-clause-next g c =
    let accepts = g.S.Checker.accepts c.args.sealer.now in
    let left = g.I.Source.left c.args.source.now in
    let left' = g.I.Source.left c.next.new.source in
    let held = g.K.Sink.held c.args.sink.now in
    let held' = g.K.Sink.held c.serve_line.new.sink in
    let kept = (told_lists (g.F.Disk.history c.args.log.now.disk) c.args.log.now.end (length c.args.log.now.counts)) in
    let kept' = (told_lists (g.F.Disk.history c.serve_line.new.log.disk) c.serve_line.new.log.end (length c.serve_line.new.log.counts)) in
    next_line accepts c.args.reader.now c.next.new.self left left' held held' kept kept' c.args.validator.now c.serve_line.new.validator c.in-Ok-Line.line (subst (Reads c.args.reader.now c.next.new.self left left') c.in-Ok-Line.field-0-is c.in-Ok-Line.ensures.reads)
    (subst (λ (line : List ℕ). IsServed accepts (request_of line) held held' kept kept' c.args.validator.now c.serve_line.new.validator) c.as_slice.ensures.value c.in-Ok.ensures.ok)

pub returns-in-Ok-Line-clause-cut : goal.returns-in-Ok-Line-clause-cut
returns-in-Ok-Line-clause-cut g c =
    let accepts = g.S.Checker.accepts c.args.sealer.now in
    let left = g.I.Source.left c.args.source.now in
    let left' = g.I.Source.left c.next.new.source in
    let held = g.K.Sink.held c.args.sink.now in
    let held' = g.K.Sink.held c.serve_line.new.sink in
    let kept = (told_lists (g.F.Disk.history c.args.log.now.disk) c.args.log.now.end (length c.args.log.now.counts)) in
    let kept' = (told_lists (g.F.Disk.history c.serve_line.new.log.disk) c.serve_line.new.log.end (length c.serve_line.new.log.counts)) in
    let why = c.in-Err-serve_line.stop in
    cut_line accepts c.args.reader.now c.next.new.self left left' held held' kept kept' c.args.validator.now c.serve_line.new.validator c.in-Ok-Line.line why (subst (Reads c.args.reader.now c.next.new.self left left') c.in-Ok-Line.field-0-is c.in-Ok-Line.ensures.reads)
    (subst (λ (line : List ℕ). IsStoppedBy accepts why (request_of line) held held' kept kept' c.args.validator.now) c.as_slice.ensures.value c.in-Err-serve_line.ensures.cut)

pub returns-in-Ok-Line-clause-each : goal.returns-in-Ok-Line-clause-each
returns-in-Ok-Line-clause-each g c =
    let accepts = g.S.Checker.accepts c.args.sealer.now in
    let left = g.I.Source.left c.args.source.now in
    let left' = g.I.Source.left c.next.new.source in
    let held = g.K.Sink.held c.args.sink.now in
    let held' = g.K.Sink.held c.serve_line.new.sink in
    let kept = (told_lists (g.F.Disk.history c.args.log.now.disk) c.args.log.now.end (length c.args.log.now.counts)) in
    let why = c.in-Err-serve_line.stop in
    each_map (length c.serve_line.new.log.counts) (g.F.Disk.history c.serve_line.new.log.disk) (λ lists s. cut_line accepts c.args.reader.now c.next.new.self left left' held held' kept lists c.args.validator.now c.serve_line.new.validator c.in-Ok-Line.line why (subst (Reads c.args.reader.now c.next.new.self left left') c.in-Ok-Line.field-0-is c.in-Ok-Line.ensures.reads)
    (subst (λ (line : List ℕ). IsStoppedBy accepts why (request_of line) held held' kept lists c.args.validator.now) c.as_slice.ensures.value s)) c.in-Err-serve_line.ensures.each

pub returns-in-Ok-serve_bad-clause-more : goal.returns-in-Ok-serve_bad-clause-more
returns-in-Ok-serve_bad-clause-more g c = more_whole (g.F.Disk.history c.args.log.now.disk) c.args.log.now.end (g.F.Disk.failed c.args.log.now.disk) c.args.log.now.shut c.requires.whole (g.met.F.Disk.seen c.args.log.now.disk)

pub returns-in-Ok-TooLong-clause-each : goal.returns-in-Ok-TooLong-clause-each
returns-in-Ok-TooLong-clause-each g c =
    let accepts = g.S.Checker.accepts c.args.sealer.now in
    let left = g.I.Source.left c.args.source.now in
    let left' = g.I.Source.left c.next.new.source in
    let held = g.K.Sink.held c.args.sink.now in
    let held' = g.K.Sink.held c.serve_bad.new.sink in
    let kept = (told_lists (g.F.Disk.history c.args.log.now.disk) c.args.log.now.end (length c.args.log.now.counts)) in
    each_whole (λ (lists : Option Journals). IsCutBy accepts c.in-Err-serve_bad.stop (around c.args.reader.now left held kept c.args.validator.now) (around c.next.new.self left' held' lists c.args.validator.now)) (g.F.Disk.history c.args.log.now.disk) c.args.log.now.end (length c.args.log.now.counts) c.args.log.now.shut c.requires.whole (g.met.F.Disk.seen c.args.log.now.disk)
    (cut_long accepts c.args.reader.now c.next.new.self left left' held held' kept kept c.args.validator.now c.args.validator.now c.in-Err-serve_bad.stop (subst (Reads c.args.reader.now c.next.new.self left left') c.in-Ok-TooLong.field-0-is c.in-Ok-TooLong.ensures.reads) c.in-Err-serve_bad.ensures.cut)

pub returns-in-Ok-TooLong-clause-more : goal.returns-in-Ok-TooLong-clause-more
returns-in-Ok-TooLong-clause-more g c = more_whole (g.F.Disk.history c.args.log.now.disk) c.args.log.now.end (g.F.Disk.failed c.args.log.now.disk) c.args.log.now.shut c.requires.whole (g.met.F.Disk.seen c.args.log.now.disk)

pub returns-in-Ok-End-clause-more : goal.returns-in-Ok-End-clause-more
returns-in-Ok-End-clause-more g c = more_whole (g.F.Disk.history c.args.log.now.disk) c.args.log.now.end (g.F.Disk.failed c.args.log.now.disk) c.args.log.now.shut c.requires.whole (g.met.F.Disk.seen c.args.log.now.disk)

pub returns-clause-each : goal.returns-clause-each
returns-clause-each g c =
    let kept = (told_lists (g.F.Disk.history c.args.log.now.disk) c.args.log.now.end (length c.args.log.now.counts)) in
    each_whole (λ (lists : Option Journals). IsCutBy (g.S.Checker.accepts c.args.sealer.now) c.unread.result (around c.args.reader.now (g.I.Source.left c.args.source.now) (g.K.Sink.held c.args.sink.now) kept c.args.validator.now) (around c.next.new.self (g.I.Source.left c.next.new.source) (g.K.Sink.held c.args.sink.now) lists c.args.validator.now)) (g.F.Disk.history c.args.log.now.disk) c.args.log.now.end (length c.args.log.now.counts) c.args.log.now.shut c.requires.whole (g.met.F.Disk.seen c.args.log.now.disk)
    (rw c.unread.ensures (cut_unread (g.S.Checker.accepts c.args.sealer.now) c.args.reader.now c.next.new.self (g.I.Source.left c.args.source.now) (g.I.Source.left c.next.new.source) (g.K.Sink.held c.args.sink.now) kept kept c.args.validator.now c.in-Err.fault (keeps_same kept)))

pub returns-clause-more : goal.returns-clause-more
returns-clause-more g c = more_whole (g.F.Disk.history c.args.log.now.disk) c.args.log.now.end (g.F.Disk.failed c.args.log.now.disk) c.args.log.now.shut c.requires.whole (g.met.F.Disk.seen c.args.log.now.disk)
