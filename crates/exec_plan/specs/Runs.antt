-- What a run adds to a store.
use Rattle.std.specs.Prelude.{List, ◌++◌}
use Rattle.protocol_spec.specs.Member.Versions.{Execution}
use Rattle.version_store.specs.Stores.{Stored}

-- the store with these executions after its own
abbrev pub with_executions : Stored → List Execution → Stored
with_executions s more = record s { executed = s.executed ++ more }
