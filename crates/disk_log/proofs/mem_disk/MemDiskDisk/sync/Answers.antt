use Rattle.std.proofs.Common.{sym, ◌∙◌, ap, length, subst, List}
use Rattle.disk_log.specs.declared.mem_disk.Change.{Change}
use Rattle.disk_log.specs.Memory.{history_of}
use Rattle.disk_log.proofs.Changes.{sync-settles, reads-synced, all-fit, Fits}
use Rattle.std.specs.Prelude.{All}
use Rattle.disk_log.proofs.mem_disk.MemDiskDisk.sync.Goals as goal

pub invariant_of-self-2 : goal.invariant_of-self-2
invariant_of-self-2 c = rw c.note_sync.ensures (
  c.self.invariant.0 ∙ sym (reads-synced c.self.inside.first c.self.inside.changes.items),
  c.self.invariant.1,
  all-fit c.self.inside.changes.items c.self.invariant.2,
)

pub returns-clause-synced : goal.returns-clause-synced
returns-clause-synced c = rw (c.note_sync.ensures, ← c.self.view_is) (sync-settles c.self.inside.first c.self.inside.changes.items)

pub returns-clause-extent : goal.returns-clause-extent
returns-clause-extent c = rw (c.note_sync.ensures, ← c.self.view_is) (ap length (reads-synced c.self.inside.first c.self.inside.changes.items))
