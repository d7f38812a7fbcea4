-- What clauses see of a file. Source: this profile.
use Rattle.std.specs.Prelude.{ℕ}
use Rattle.std.specs.declared.fs.attrs.Metadata.{Metadata}

-- the metadata that the system gave when the file was opened, its size in bytes, and its count of faults
pub record FileState : Type 0 where
  pub opened : Metadata
  pub extent : ℕ
  pub faults : ℕ
