use Rattle.std.proofs.Common.{map}
use Rattle.std.specs.String.{string_bytes}
use Rattle.command_words.specs.Words.{command_in}
use Rattle.committee_core.proofs.Fewer.{begins_as, ends_called}
use Rattle.committee_core.proofs.in_file.obey_over.Goals as goal

pub committee-status-requires-clause-empty : goal.committee-status-requires-clause-empty
committee-status-requires-clause-empty g c κs within = begins_as g.F.Disk.history g.F.Disk.failed (command_in (map string_bytes c.args.words.now)) c.new-log.result c.args.log c.new-log.ensures c.requires.empty

pub returns : goal.returns
returns g c =
    rw c.into_disk.ensures.disk (ends_called g.F.Disk.history g.F.Disk.failed (command_in (map string_bytes c.args.words.now))
    (g.S.Source.left c.args.source.now) (g.S.Source.left c.committee-status.new.source) (g.S.Source.faults c.args.source.now) (g.S.Source.faults c.committee-status.new.source)
    (g.K.Sink.held c.args.sink.now) (g.K.Sink.held c.committee-status.new.sink) (g.K.Sink.faults c.args.sink.now) (g.K.Sink.faults c.committee-status.new.sink) c.committee-status.result
    g.O.Opening.faults g.O.Opening.begun c.new-log.result c.committee-status.new.keeper c.args.log
    c.new-log.ensures c.requires.opened c.requires.begun c.into_disk.ensures.calling (g.met.F.Disk.seen c.committee-status.new.keeper.log.disk) c.committee-status.ensures.ends)
