use Rattle.std.proofs.Common.{length, map}
use Rattle.std.specs.String.{string_bytes}
use Rattle.disk_log.proofs.Running.{lists_opened, unchanged_opened, unchanged_refused}
use Rattle.committee_core.specs.InFile.{most_members}
use Rattle.committee_core.proofs.InFiles.{opened_ends, uncalled_refused}
use Rattle.committee_core.proofs.in_file.committee_in.Goals as goal

pub returns-in-Ok : goal.returns-in-Ok
returns-in-Ok g c =
    opened_ends (map string_bytes c.args.words.now) (g.F.Disk.history c.args.disk) (g.F.Disk.history c.in-Ok.log.disk) (g.F.Disk.history c.over_log.result.1) c.in-Ok.log.end _ _ _ _ _ _ _ _ _ _ _ _ _
    c.in-Ok.ensures.opened (unchanged_opened (g.F.Disk.history c.args.disk) (g.F.Disk.history c.in-Ok.log.disk) c.in-Ok.log.end most_members c.in-Ok.ensures.opened (g.met.F.Disk.seen c.in-Ok.log.disk))
    (lists_opened (g.F.Disk.history c.args.disk) (g.F.Disk.history c.in-Ok.log.disk) c.in-Ok.log.end most_members (length c.in-Ok.log.counts) c.in-Ok.ensures.opened c.in-Ok.ensures.width) c.in-Ok.ensures.later c.over_log.ensures

pub returns-in-Err : goal.returns-in-Err
returns-in-Err g c =
    rw c.unopened.ensures.disk (uncalled_refused (map string_bytes c.args.words.now) (g.F.Disk.history c.args.disk) (g.F.Disk.history c.in-Err.refused.0) _ _ _ _ _ _ _ _ _
    c.in-Err.refused.1 (unchanged_refused (g.F.Disk.history c.args.disk) (g.F.Disk.history c.in-Err.refused.0) c.in-Err.ensures.not_opened (g.met.F.Disk.seen c.in-Err.refused.0)) c.in-Err.ensures.cause
    c.unopened.ensures.known c.unopened.ensures.refused c.unopened.ensures.write_fault c.unopened.ensures.disk_fault c.unopened.ensures.cut)
