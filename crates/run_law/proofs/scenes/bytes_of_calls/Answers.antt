use Rattle.run_law.proofs.SceneStarts.{entry-spelled, hold-bytes, hold-spelled, vote-bytes, vote-spelled}
use Rattle.run_law.proofs.scenes.bytes_of_calls.Goals as goal

pub returns : goal.returns
returns c = record { votes = vote-bytes; holds = hold-bytes; signed = vote-spelled; certificates = hold-spelled; entries = entry-spelled }
