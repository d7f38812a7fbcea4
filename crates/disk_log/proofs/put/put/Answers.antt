use Rattle.disk_log.proofs.Moments.{put-refused, put-done, put-unsynced, within}
use Rattle.disk_log.proofs.put.put.Goals as goal

pub returns-in-Err-clause-put : goal.returns-in-Err-clause-put
returns-in-Err-clause-put g c = put-refused _ _ _ _ _ c.requires.quiet c.in-Err.ensures.written

pub returns-in-Ok-sync-clause-put : goal.returns-in-Ok-sync-clause-put
returns-in-Ok-sync-clause-put g c =
    put-done _ (g.K.Disk.history c.write_at.new.self) _ _ _ c.requires.quiet
    (within _ (g.K.Disk.extent c.args.disk.now) _ (g.met.K.Disk.sized c.args.disk.now) c.requires.at)
    c.in-Ok.ensures.written c.in-Ok-sync.ensures.synced

pub returns-in-Err-sync-clause-put : goal.returns-in-Err-sync-clause-put
returns-in-Err-sync-clause-put g c =
    put-unsynced _ (g.K.Disk.history c.write_at.new.self) _ _ _ _ c.requires.quiet
    (within _ (g.K.Disk.extent c.args.disk.now) _ (g.met.K.Disk.sized c.args.disk.now) c.requires.at)
    c.in-Ok.ensures.written c.in-Err-sync.ensures.synced
