use Rattle.std.proofs.Common.{◌≡◌, length}
use Rattle.std.specs.Prelude.{find}
use Rattle.exec_plan.specs.Tasks.{is_at}
use Rattle.exec_plan.proofs.task.written_at.Given as goal

-- nothing that was passed has the key
abbrev pub invariant-loop-rest : goal.invariant-loop-rest
invariant-loop-rest l = find (is_at l.key) l.rest ≡ find (is_at l.key) l.objects

abbrev pub decreases-loop-rest : goal.decreases-loop-rest
decreases-loop-rest l = length l.rest
