use Rattle.std.proofs.Common.{◌≡◌, length}
use Rattle.std.specs.Prelude.{filter}
use Rattle.chain_types.specs.Digests.{is_object}
use Rattle.exec_plan.proofs.inputs.next_object.Given as goal

-- no input that was passed names an object
abbrev pub invariant-loop-rest : goal.invariant-loop-rest
invariant-loop-rest l = filter is_object l.rest ≡ filter is_object l.inputs

abbrev pub decreases-loop-rest : goal.decreases-loop-rest
decreases-loop-rest l = length l.rest
