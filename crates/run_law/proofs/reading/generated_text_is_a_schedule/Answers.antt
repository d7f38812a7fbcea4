use Rattle.run_law.proofs.Generated.{generated}
use Rattle.run_law.proofs.reading.generated_text_is_a_schedule.Goals as goal

pub returns : goal.returns
returns c = generated
