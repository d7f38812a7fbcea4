use Rattle.run_law.proofs.CarriedPosts.{posts-lines, posts-step}
use Rattle.run_law.proofs.scenes.steps_of_posts.Goals as goal

pub returns : goal.returns
returns c = record { steps = posts-step; lines = posts-lines }
