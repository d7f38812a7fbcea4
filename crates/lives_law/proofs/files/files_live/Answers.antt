use Rattle.lives_law.proofs.OnFiles.{files-live}
use Rattle.lives_law.proofs.files.files_live.Goals as goal

pub returns : goal.returns
returns c = files-live
