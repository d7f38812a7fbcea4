use Rattle.run_law.proofs.SceneRecords.{front-ahead, line-cut, line-told, opens-told, told-front}
use Rattle.run_law.proofs.SceneStarts.{first-starts, line-starts}
use Rattle.run_law.proofs.scenes.records_of_a_world.Goals as goal

pub returns : goal.returns
returns c = record { first = first-starts; starts = line-starts; opens = opens-told; told = line-told; cut = line-cut; fronts = told-front; ahead = front-ahead }
