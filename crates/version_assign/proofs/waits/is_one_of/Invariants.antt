use Rattle.std.proofs.Common.{◌≡◌, drop}
use Rattle.protocol_spec.specs.Chain.Tests.{has_id}
use Rattle.version_assign.proofs.waits.is_one_of.Given as goal

-- none that was passed is it
abbrev pub invariant-loop-one : goal.invariant-loop-one
invariant-loop-one l = has_id (drop l.one-index l.ids) l.id ≡ has_id l.ids l.id
