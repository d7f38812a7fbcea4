use Rattle.std.proofs.Common.{◌*◌, ◌+◌}
use Rattle.dag_pool.proofs.team.+fn-run_team-join+arg3+run_team.Given as goal

abbrev pub decreases-run_team : goal.decreases-run_team
decreases-run_team g l = 2 * l.workers

abbrev pub decreases-join+arg3 : goal.decreases-join+arg3
decreases-join+arg3 g l = 2 * l.last + 1
