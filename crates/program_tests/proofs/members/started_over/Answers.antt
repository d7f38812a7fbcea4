use Rattle.world_lines.proofs.Opened.{opening_apart}
use Rattle.program_tests.proofs.members.started_over.Goals as goal

pub started_from-requires : goal.started_from-requires
started_from-requires c = opening_apart c.as_slice.result.now c.in-Ok.opening c.in-Ok.ensures.opening
