use Rattle.std.proofs.Common.{◌≡◌, ◌∷◌, take}
use Rattle.std.specs.Prelude.{filter_map}
use Rattle.chain_types.specs.Digests.{key_of, consumed_key}
use Rattle.chain_types.proofs.keys.owned_keys.Given as goal

abbrev pub invariant-loop-input : goal.invariant-loop-input
invariant-loop-input l = l.keys ≡ key_of l.tx.gas ∷ filter_map consumed_key (take l.input-index l.tx.inputs)
