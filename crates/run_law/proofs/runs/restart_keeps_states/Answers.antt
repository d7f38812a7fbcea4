use Rattle.run_law.proofs.Seats.{restarted}
use Rattle.run_law.proofs.runs.restart_keeps_states.Goals as goal

pub returns : goal.returns
returns c = restarted
