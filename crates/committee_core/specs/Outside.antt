-- What the program's source, sink and keeper show and count at one moment.
use Rattle.std.specs.Prelude.{ℕ, List, Option}
use Rattle.outside.specs.Lists.{Journals}

pub record Outside : Type 0 where
  -- the bytes that the source has left, and its count of faults
  pub left : Option (List ℕ)
  pub read_faults : ℕ
  -- the bytes that the sink took, and its count of faults
  pub held : Option (List ℕ)
  pub write_faults : ℕ
  -- the records that the keeper keeps, and its count of faults
  pub kept : Option Journals
  pub keep_faults : ℕ

abbrev pub outside : Option (List ℕ) → ℕ → Option (List ℕ) → ℕ → Option Journals → ℕ → Outside
outside left read_faults held write_faults kept keep_faults =
    record { left = left; read_faults = read_faults; held = held; write_faults = write_faults; kept = kept; keep_faults = keep_faults }
