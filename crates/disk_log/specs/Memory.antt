-- A disk in memory, as its contents at first and what was done since. Source: this profile.
use Rattle.std.specs.Prelude.{ℕ, ◌+◌, max, true, false, List, [], ◌∷◌, ◌++◌, length, Result, Err, if◌then◌else◌}
use Rattle.outside.specs.Turns.{after_call, fails_next, faults_after}
use Rattle.outside.specs.declared.turns.Turns.{Turns}
use Rattle.outside.specs.declared.faults.OutFault.{OutFault}
use Rattle.outside.specs.declared.faults.OutFault.TheVariants as fault
use Rattle.disk_log.specs.declared.moment.Moment.{Moment}
use Rattle.disk_log.specs.declared.mem_disk.Change.{Change}
use Rattle.disk_log.specs.Disk.{History, later, with_bytes}

-- a disk in memory: its bytes at first, what was written, tried and synced since, which calls fail, and its
-- count of faults
pub record DiskState : Type 0 where
  pub first : List ℕ
  pub changes : List Change
  pub turns : Turns
  pub faults : ℕ

-- these bytes, all of them stable
abbrev pub settled_at : List ℕ → Moment
settled_at bytes = record { reads = bytes; stable = bytes; most = length bytes; ranges = [] }

-- the moment after a write; a failed one leaves what reads give
abbrev pub touched_by : Moment → Change → Moment
touched_by m change = record {
  reads = if change.failed then m.reads else with_bytes m.reads change.at change.bytes;
  stable = m.stable;
  most = max m.most (change.at + length change.bytes);
  ranges = m.ranges ++ record { at = change.at; count = length change.bytes } ∷ [];
}

-- the moments of a change: its own, and that of the sync after it if there was one
abbrev pub behind_change : History → Change → History
behind_change h change =
    if change.synced then later (later h (touched_by h.now change)) (settled_at (touched_by h.now change).reads) else later h (touched_by h.now change)

-- the moments after these changes
abbrev pub grown : History → List Change → History
grown h [] = h
grown h (change ∷ changes) = grown (behind_change h change) changes

-- the moments of a file that began with these bytes
abbrev pub history_of : List ℕ → List Change → History
history_of first changes = grown (record { past = []; now = settled_at first }) changes

-- the last moment of a change, without the history
abbrev pub moment_behind : Moment → Change → Moment
moment_behind m change = if change.synced then settled_at (touched_by m change).reads else touched_by m change

abbrev pub moment_by : Moment → List Change → Moment
moment_by m [] = m
moment_by m (change ∷ changes) = moment_by (moment_behind m change) changes

-- the last change is synced, if there is one
abbrev pub last_synced : List Change → List Change
last_synced [] = []
last_synced (change ∷ []) = record change { synced = true } ∷ []
last_synced (change ∷ next ∷ changes) = change ∷ last_synced (next ∷ changes)

-- a disk after a write: one change more, unless memory was refused
abbrev pub behind_write : DiskState → ℕ → List ℕ → Result (Unit {0}) OutFault → DiskState
behind_write disk at bytes (Err fault.OutOfMemory) = disk
behind_write disk at bytes result = record disk {
  changes = disk.changes ++ record { at = at; bytes = bytes; failed = fails_next disk.turns; synced = false } ∷ [];
  turns = after_call disk.turns;
  faults = faults_after disk.turns disk.faults;
}

-- a disk after a sync: the last change is synced, unless the call was to fail
abbrev pub behind_sync : DiskState → DiskState
behind_sync disk = record disk {
  changes = if fails_next disk.turns then disk.changes else last_synced disk.changes;
  turns = after_call disk.turns;
  faults = faults_after disk.turns disk.faults;
}

-- a disk after a read
abbrev pub behind_read : DiskState → DiskState
behind_read disk = record disk { turns = after_call disk.turns; faults = faults_after disk.turns disk.faults }
