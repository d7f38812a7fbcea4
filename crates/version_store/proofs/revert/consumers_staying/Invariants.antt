use Rattle.std.proofs.Common.{◌≡◌, []}
use Rattle.version_store.specs.Reverts.{consumers_staying}
use Rattle.version_store.proofs.revert.consumers_staying.Given as goal

-- from here the loop gives what the whole loop gives
abbrev pub invariant-loop-tx : goal.invariant-loop-tx
invariant-loop-tx l = consumers_staying l.kept.keys l.consumers.entries l.tx-iterator ≡ consumers_staying l.kept.keys [] l.executed.entries
