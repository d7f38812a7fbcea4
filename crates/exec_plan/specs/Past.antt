-- A store in which the planned transactions count as executed.
use Rattle.std.specs.Prelude.{List, [], ◌++◌, map}
use Rattle.digest_core.specs.declared.Digest.{Digest}
use Rattle.effects_core.specs.declared.effects.Status.TheVariants as status
use Rattle.protocol_spec.specs.Member.Versions.{Execution}
use Rattle.version_store.specs.Stores.{Stored}

-- an execution that gave nothing
abbrev pub empty_execution : Digest → Execution
empty_execution tx = record {
  digest = tx;
  consumed = [];
  gave = record { effects = record { tx = tx; status = status.Done; version = 0; gas = 0; created = 0; written = []; deleted = [] }; objects = [] };
}

-- the store as if these transactions had been executed, and had given nothing
abbrev pub as_if : List Digest → Stored → Stored
as_if txs s = record s { executed = map empty_execution txs ++ s.executed }
