use Rattle.std.proofs.Common.{◌≡◌, length}
use Rattle.std.specs.Prelude.{find}
use Rattle.protocol_spec.specs.Member.Rounds.{is_of_id}
use Rattle.exec_plan.proofs.inputs.with_id.Given as goal

-- none that was passed is of the id
abbrev pub invariant-loop-rest : goal.invariant-loop-rest
invariant-loop-rest l = find (is_of_id l.id) l.rest ≡ find (is_of_id l.id) l.assigned

abbrev pub decreases-loop-rest : goal.decreases-loop-rest
decreases-loop-rest l = length l.rest
