use Rattle.std.proofs.Common.{◌≡◌, ◌≤◌, ◌+◌, suc, length, take}
use Rattle.std.specs.Prelude.{filter}
use Rattle.chain_types.specs.Digests.{is_object}
use Rattle.chain_types.proofs.keys.object_count.Given as goal

abbrev pub invariant-loop-input : goal.invariant-loop-input
invariant-loop-input l = (l.count ≡ suc (length (filter is_object (take l.input-index l.tx.inputs)))) × (l.count ≤ l.input-index + 1)
