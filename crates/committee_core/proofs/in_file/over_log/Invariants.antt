use Rattle.std.proofs.Common.{length}
use Rattle.disk_log.specs.Keeping.{told_lists}
use Rattle.committee_core.proofs.in_file.over_log.Given as goal

abbrev pub ghosts-obey_over : goal.ghosts-obey_over
ghosts-obey_over g a = record { faults = g.F.Disk.failed a.log.disk; begun = told_lists (g.F.Disk.history a.log.disk) a.log.end (length a.log.counts) }
