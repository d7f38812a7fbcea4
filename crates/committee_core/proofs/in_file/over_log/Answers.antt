use Rattle.std.proofs.Common.{length, map, sym, ◌∙◌}
use Rattle.std.specs.String.{string_bytes}
use Rattle.disk_log.specs.Keeping.{told_lists}
use Rattle.command_words.specs.Words.{command_in}
use Rattle.committee_core.proofs.InFiles.{begins_replay, begins_where_empty}
use Rattle.committee_core.proofs.in_file.over_log.Goals as goal

pub obey_over-requires-clause-empty : goal.obey_over-requires-clause-empty
obey_over-requires-clause-empty g c κs within =
    begins_replay (map string_bytes c.args.words.now) (told_lists (g.F.Disk.history c.args.log.disk) c.args.log.end (length c.args.log.counts)) (sym c.names_replay.ensures ∙ c.if-names_replay.true)

pub obey_over-requires-then-is_empty-clause-empty : goal.obey_over-requires-then-is_empty-clause-empty
obey_over-requires-then-is_empty-clause-empty g c κs within =
    begins_where_empty (command_in (map string_bytes c.args.words.now)) (g.F.Disk.history c.args.log.disk) c.args.log.end (length c.args.log.counts) c.is_empty.result c.is_empty.ensures c.if-is_empty.true
