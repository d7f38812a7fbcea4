use Rattle.std.proofs.Common.{◌≡◌, []}
use Rattle.version_store.specs.Reverts.{deleted_staying}
use Rattle.version_store.proofs.revert.deleted_staying.Given as goal

-- from here the loop gives what the whole loop gives
abbrev pub invariant-loop-tx : goal.invariant-loop-tx
invariant-loop-tx l = deleted_staying l.kept.keys l.deleted.keys l.tx-iterator ≡ deleted_staying l.kept.keys [] l.executed.entries
