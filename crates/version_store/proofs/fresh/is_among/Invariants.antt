use Rattle.std.proofs.Common.{◌≡◌, length, map}
use Rattle.std.specs.List.{list_any}
use Rattle.chain_types.specs.Equal.{key_eq}
use Rattle.protocol_spec.specs.Chain.Keys.{object_key}
use Rattle.version_store.proofs.fresh.is_among.Given as goal

-- none that was passed is the version
abbrev pub invariant-loop-rest : goal.invariant-loop-rest
invariant-loop-rest l = list_any (key_eq l.key) (map object_key l.rest) ≡ list_any (key_eq l.key) (map object_key l.objects)

abbrev pub decreases-loop-rest : goal.decreases-loop-rest
decreases-loop-rest l = length l.rest
