use Rattle.run_law.proofs.SceneSteps.{first-shown, lines-shown, posts-shown, restart-lines, restart-shown, step-shown}
use Rattle.run_law.proofs.scenes.steps_of_a_world.Goals as goal

pub returns : goal.returns
returns c = record { first = first-shown; steps = step-shown; lines = lines-shown; restart = restart-shown; restarted = restart-lines; posts = posts-shown }
