-- What contracts see of the sources, sinks and keepers in memory. Source: this profile.
use Rattle.std.specs.Prelude.{ℕ, ◌==◌, ◌&&◌, List, [], if◌then◌else◌}
use Rattle.std.specs.List.{slice_index_or}
use Rattle.outside.specs.declared.turns.Turns.{Turns}
use Rattle.outside.specs.Lists.{Journals, journal_of}

-- a source: the bytes that are left, how many a read gives at most, which reads fail, and its count of faults
pub record SourceState : Type 0 where
  pub left : List ℕ
  pub piece : ℕ
  pub turns : Turns
  pub faults : ℕ

-- a sink: the bytes that it took, which writes fail, and its count of faults
pub record SinkState : Type 0 where
  pub held : List ℕ
  pub turns : Turns
  pub faults : ℕ

-- a sink that takes at most `most` bytes of a piece
pub record NarrowState : Type 0 where
  pub held : List ℕ
  pub most : ℕ
  pub turns : Turns
  pub faults : ℕ

-- a keeper: its lists, which appends and reads fail, counted together, and its count of faults
pub record KeeperState : Type 0 where
  pub lists : Journals
  pub turns : Turns
  pub faults : ℕ

-- a keeper that gives other bytes if this place of this member is read
pub record AlteredState : Type 0 where
  pub inner : KeeperState
  pub member : ℕ
  pub place : ℕ
  pub bytes : List ℕ

-- the record that is read at a place
abbrev pub record_read : AlteredState → ℕ → ℕ → List ℕ
record_read k member place =
    if (member == k.member) && (place == k.place) then k.bytes else slice_index_or (journal_of k.inner.lists member) place []
