use Rattle.run_law.proofs.SceneStarts.{run-starts}
use Rattle.run_law.proofs.SceneRuns.{text-starts}
use Rattle.run_law.proofs.scenes.restarts_of_a_run.Goals as goal

pub returns : goal.returns
returns c = record { run = run-starts; read = text-starts }
