use Rattle.std.proofs.Common.{◌≡◌, length}
use Rattle.chain_types.specs.declared.objects.ObjectKey.{ObjectKey}
use Rattle.protocol_spec.specs.Chain.Tests.{has_key}
use Rattle.protocol_spec.specs.Chain.Words.{first_of, where_true}
use Rattle.light_check.proofs.rivals.first_shared.Given as goal

abbrev pub invariant-loop-rest : goal.invariant-loop-rest
invariant-loop-rest l = first_of (λ (key : ObjectKey). where_true (has_key l.keys key) key) l.rest ≡ first_of (λ (key : ObjectKey). where_true (has_key l.keys key) key) l.others

abbrev pub decreases-loop-rest : goal.decreases-loop-rest
decreases-loop-rest l = length l.rest
