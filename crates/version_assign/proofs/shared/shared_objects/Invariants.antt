use Rattle.std.proofs.Common.{◌≡◌, [], length}
use Rattle.version_assign.specs.Steps.{with_all_shared}
use Rattle.version_assign.proofs.shared.shared_objects.Given as goal

-- what is left, after what was put, makes up all
abbrev pub invariant-loop-rest : goal.invariant-loop-rest
invariant-loop-rest l = with_all_shared l.map.entries l.rest ≡ with_all_shared [] l.objects

abbrev pub decreases-loop-rest : goal.decreases-loop-rest
decreases-loop-rest l = length l.rest
