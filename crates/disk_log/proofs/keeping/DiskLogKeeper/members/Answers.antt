use Rattle.std.proofs.Common.{sym, subst, length, ℕ}
use Rattle.outside.specs.Lists.{HasMembers}
use Rattle.disk_log.specs.Keeping.{told_lists}
use Rattle.disk_log.proofs.Reading.{members-are}
use Rattle.disk_log.proofs.keeping.DiskLogKeeper.members.Goals as goal

pub returns-clause-told : goal.returns-clause-told
returns-clause-told g c =
    subst (λ (n : ℕ). HasMembers (told_lists (g.K.Disk.history c.args.self.now.disk) c.args.self.now.end (length c.args.self.now.counts)) n) (sym c.width.ensures)
    (members-are (g.K.Disk.history c.args.self.now.disk) c.args.self.now.end (length c.args.self.now.counts))
